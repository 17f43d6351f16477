-- Words: a word and its cycle, safe bit and index.
use Rattle.std.proofs.Common.{◌≡◌, ℕ, suc, ◌+◌, ◌-◌, ◌*◌, ◌/◌, ◌%◌, ◌^◌, ◌<◌, ◌≤◌, ap, ◌∙◌, subst, mod-lt, mul-le-mul_left, pow-suc, arith}
use native.Mathlib.Nat.{div-add-mod, div-div-eq-div-mul}
use lib.Bits.{bit_and, bit_or, and_mask, or_add_and}
use Rattle.ring.specs.Sizes.{Sized}
use Rattle.ring.proofs.Checks.{sized_low}
use Rattle.ring.proofs.Tickets as tickets
use Rattle.scq_table.specs.Table.{word_cycle, safe, index, bottom, join}

-- a word gives its parts back

pub join-cycle : (n c s i : ℕ) → s < 2 → i < 2 * n → word_cycle n (join n c s i) ≡ c
join-cycle n c s i a b =
    let one : s ≤ 1 = omega arith in
    let whole : join n c s i ≡ 4 * n * c + (2 * n * s + i) = omega arith in
    ap (λ w. w / (4 * n)) whole ∙ tickets.join-cycle (4 * n) c (2 * n * s + i) (omega (arith, mul-le-mul_left (2 * n) one))

high_part : (n c s i : ℕ) → i < 2 * n → join n c s i / (2 * n) ≡ 2 * c + s
high_part n c s i b =
    let whole : join n c s i ≡ 2 * n * (2 * c + s) + i = omega arith in
    ap (λ w. w / (2 * n)) whole ∙ tickets.join-cycle (2 * n) (2 * c + s) i b

pub join-safe : (n c s i : ℕ) → s < 2 → i < 2 * n → safe n (join n c s i) ≡ s
join-safe n c s i a b = ap (λ w. w % 2) (high_part n c s i b) ∙ tickets.join-index 2 c s a

pub join-index : (n c s i : ℕ) → i < 2 * n → index n (join n c s i) ≡ i
join-index n c s i b =
    let whole : join n c s i ≡ 2 * n * (2 * c + s) + i = omega arith in
    ap (λ w. w % (2 * n)) whole ∙ tickets.join-index (2 * n) (2 * c + s) i b

-- and is made of them

pub split-join : (n w : ℕ) → 1 ≤ n → join n (word_cycle n w) (safe n w) (index n w) ≡ w
split-join n w p =
    let four : 2 * n * 2 ≡ 4 * n = omega arith in
    let halved : w / (2 * n) / 2 ≡ w / (4 * n) = div-div-eq-div-mul w (2 * n) 2 ∙ ap (λ x. w / x) four in
    let high : 2 * (w / (4 * n)) + w / (2 * n) % 2 ≡ w / (2 * n) = omega (arith, halved, div-add-mod (w / (2 * n)) 2) in
    omega (arith, ap (λ x. 2 * n * x) high, div-add-mod w (2 * n))

pub safe_low : (n w : ℕ) → safe n w < 2
safe_low n w = mod-lt (w / (2 * n)) (omega arith)

pub index_low : (n w : ℕ) → 1 ≤ n → index n w < 2 * n
index_low n w p = mod-lt w (omega arith)

pub bottom_low : (n : ℕ) → 1 ≤ n → bottom n < 2 * n
bottom_low n p = omega arith

-- an or with bottom

-- bottom's bits are all those of an index
and_bottom : (n w : ℕ) → Sized n → bit_and w (bottom n) ≡ index n w
and_bottom n w (b, low, size) =
    let twice : 2 ^ suc b ≡ 2 * n = omega (arith, size, pow-suc 2 b) in
    subst (λ x. bit_and w (x - 1) ≡ w % x) twice (and_mask w (suc b))

pub or_bottom : (n w : ℕ) → Sized n → bit_or w (bottom n) ≡ join n (word_cycle n w) (safe n w) (bottom n)
or_bottom n w p = omega (arith, or_add_and w (bottom n), and_bottom n w p, split-join n w (sized_low n p))

pub or_cycle : (n w : ℕ) → Sized n → word_cycle n (bit_or w (bottom n)) ≡ word_cycle n w
or_cycle n w p = ap (word_cycle n) (or_bottom n w p) ∙ join-cycle n (word_cycle n w) (safe n w) (bottom n) (safe_low n w) (bottom_low n (sized_low n p))

pub or_safe : (n w : ℕ) → Sized n → safe n (bit_or w (bottom n)) ≡ safe n w
or_safe n w p = ap (safe n) (or_bottom n w p) ∙ join-safe n (word_cycle n w) (safe n w) (bottom n) (safe_low n w) (bottom_low n (sized_low n p))

pub or_index : (n w : ℕ) → Sized n → index n (bit_or w (bottom n)) ≡ bottom n
or_index n w p = ap (index n) (or_bottom n w p) ∙ join-index n (word_cycle n w) (safe n w) (bottom n) (bottom_low n (sized_low n p))
