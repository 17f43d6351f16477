-- Tickets of a ring of n slots: the slot is the remainder, the cycle the quotient.
use Rattle.std.proofs.Common.{◌≡◌, ℕ, ◌+◌, ◌-◌, ◌*◌, ◌/◌, ◌%◌, ◌<◌, ◌≤◌, ap, ◌∙◌, ⊎_elim, mod-lt, mul_comm, mul-le-mul_left, arith}
use native.Mathlib.Nat.{div-add-mod, add-mod-mod, add-mul-mod_self_left}
use Rattle.std.proofs.lemmas.Bool.{cases_lt}
use Rattle.std.proofs.lemmas.Nat.{div-mul-add, mod-mul-add}

-- two tickets of one slot are equal as their cycles are
pub same_ticket : (n a b : ℕ) → a % n ≡ b % n → a / n ≡ b / n → a ≡ b
same_ticket n a b p c = omega (arith, div-add-mod a n, div-add-mod b n, ap (λ x. n * x) c)

-- and compare as their cycles do
pub later_cycle : (n a b : ℕ) → a % n ≡ b % n → a < b → a / n < b / n
later_cycle n a b p l =
    ⊎_elim (λ c. c) (λ c. absurd (omega (arith, div-add-mod a n, div-add-mod b n, mul-le-mul_left n c))) (cases_lt (a / n) (b / n))

-- tickets less than n apart have different slots
pub slots_differ : (n a b : ℕ) → a < b → b < a + n → a % n ≡ b % n → ⊥
slots_differ n a b l m p =
    let c : a / n + 1 ≤ b / n = omega (arith, later_cycle n a b p l) in
    omega (arith, div-add-mod a n, div-add-mod b n, mul-le-mul_left n c)

-- the ticket of t's slot among the n tickets from b on
pub in_window : (n b t : ℕ) → 1 ≤ n → (u : ℕ) × (b ≤ u) × (u < b + n) × (u % n ≡ t % n)
in_window n b t p = (
  b + (t + (n - b % n)) % n,
  omega arith,
  omega (arith, mod-lt (t + (n - b % n)) p),
  (add-mod-mod b (t + (n - b % n)) n ∙ (ap (λ x. x % n) whole ∙ add-mul-mod_self_left t n (b / n + 1))),
)
  where
    whole : b + (t + (n - b % n)) ≡ t + n * (b / n + 1)
    whole = omega (arith, div-add-mod b n, mod-lt b p)

-- a word of n × cycle + index gives its parts back
pub join-cycle : (n c i : ℕ) → i < n → (n * c + i) / n ≡ c
join-cycle n c i l = rw mul_comm (div-mul-add c n i l)

pub join-index : (n c i : ℕ) → i < n → (n * c + i) % n ≡ i
join-index n c i l = rw mul_comm (mod-mul-add c n i l)
