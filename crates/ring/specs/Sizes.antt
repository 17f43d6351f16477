-- The sizes that a ring may be made with, and the refusal that each other size gets.
--
-- Sized n          n is a power of two from 1 to 64
-- Crewed n k       there is a station, and there are no more stations than places
-- Limited n l      the ticket limit is at least four times the places and at most 999,999,999
-- MakeRefused      the first of these that fails, by its refusal's number
-- make_checked     the answer to the three questions, asked in that order
-- Checked          what that answer says
--
-- Assumes nothing.
use Rattle.std.specs.Prelude.{◌≡◌, ℕ, ◌*◌, ◌^◌, ◌≤◌, Bool, if◌then◌else◌, ◌&&◌, ◌||◌, Ok, Err, Result, ◌==◌, nat_le}
use Rattle.ring.specs.declared.Refusal.{Refusal}
use Rattle.ring.specs.declared.Refusal.TheVariants.{Places, Stations, Limit}
use Rattle.ring.specs.Numbers.{refusal_number}

abbrev pub Sized : ℕ → Type 0
Sized n = (b : ℕ) × (b ≤ 6) × (n ≡ 2 ^ b)

abbrev pub Crewed : ℕ → ℕ → Type 0
Crewed n k = (1 ≤ k) × (k ≤ n)

abbrev pub Limited : ℕ → ℕ → Type 0
Limited n l = (4 * n ≤ l) × (l ≤ 999999999)

pub data MakeRefused (n k l : ℕ) (e : Refusal) : Type 0 where
  places : refusal_number e ≡ 1 → (Sized n → ⊥) → MakeRefused n k l e
  stations : refusal_number e ≡ 2 → Sized n → (Crewed n k → ⊥) → MakeRefused n k l e
  limit : refusal_number e ≡ 3 → Sized n → Crewed n k → (Limited n l → ⊥) → MakeRefused n k l e

-- n is one of the seven sizes
abbrev pub is_size : ℕ → Bool
is_size n = n == 1 || (n == 2 || (n == 4 || (n == 8 || (n == 16 || (n == 32 || n == 64)))))

abbrev pub make_checked : ℕ → ℕ → ℕ → Result (Unit {0}) Refusal
make_checked n k l =
    if is_size n then
    (if nat_le 1 k && nat_le k n then
    (if nat_le (4 * n) l && nat_le l 999999999 then Ok tt else Err Limit)
    else Err Stations)
    else Err Places

abbrev pub Checked : ℕ → ℕ → ℕ → Result (Unit {0}) Refusal → Type 0
Checked n k l (Ok u) = Sized n × Crewed n k × Limited n l
Checked n k l (Err e) = MakeRefused n k l e
