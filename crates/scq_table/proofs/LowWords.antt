-- The words that a ring writes, and those of a new ring, stay below 2^40.
use Rattle.std.proofs.Common.{◌≡◌, ℕ, ◌*◌, ◌/◌, ◌^◌, ◌<◌, ◌≤◌, eqb, ltb, List, map, set, sym, refl, ap, subst, ⊎_elim, mod-lt, mul_assoc, mul-le-mul_left, zero-add, arith}
use native.Mathlib.Nat.{div-add-mod, div-div-eq-div-mul}
use Rattle.std.specs.List.{range_with_len}
use Rattle.std.proofs.lemmas.Bool.{cases_lt, cond_both}
use Rattle.std.proofs.lemmas.List.{get_or_past}
use Rattle.std.proofs.lemmas.List.FromFn.{get_or-map-range_with_len, length-map-range_with_len}
use Rattle.ring.proofs.Entries.{all_set}
use Rattle.scq_table.specs.Table.{cycle, safe, index, bottom, join, spoilt, word_of_new, new_words}
use Rattle.scq_table.specs.Within.{LowWords}

-- every word that is written stays below 2^40

pub words-set : (words : List ℕ) (j w : ℕ) → LowWords words → w < 2 ^ 40 → LowWords (set words j w)
words-set words j w = all_set (λ v. v < 2 ^ 40) words j w 0

pub join_low : (n t c s i : ℕ) → n ≤ 64 → t ≤ 999999999 → c ≡ cycle n t → s ≤ 1 → i ≤ 128 → join n c s i < 2 ^ 40
join_low n t c s i high lt e ls li =
    omega (arith, ap (λ x. 2 * n * x) e, div-add-mod t (2 * n), mul-le-mul_left {m = s} {n = 1} (2 * n) ls, mul_assoc 4 n c, mul_assoc 2 n c)

pub spoilt_low : (n h e : ℕ) → n ≤ 64 → h ≤ 999999999 → e < 2 ^ 40 → spoilt n h e < 2 ^ 40
spoilt_low n h e high lt small =
    let two : 0 < 2 = omega arith in
    let four : 2 * n * 2 ≡ 4 * n = omega arith in
    let twice : 2 * (e / (4 * n)) ≤ e / (2 * n) = omega (arith, div-div-eq-div-mul e (2 * n) 2, ap (λ d. e / d) four) in
    let bit : safe n e ≤ 1 = omega (arith, mod-lt (e / (2 * n)) two) in
    cond_both (eqb (index n e) (bottom n)) _ _ (λ w. w < 2 ^ 40)
    (λ _. join_low n h (cycle n h) (safe n e) (bottom n) high lt refl bit (omega arith))
    (λ _. omega (arith, div-add-mod e (2 * n), mul-le-mul_left (2 * n) twice, mul_assoc 2 n (2 * (e / (4 * n))), mul_assoc 4 n (e / (4 * n))))

pub new_words_low : (n c : ℕ) → n ≤ 64 → LowWords (new_words n c)
unfolding new_words
new_words_low n c high j =
    let P : ℕ → Type 0 = λ w. w < 2 ^ 40 in
    ⊎_elim
    (λ lt. subst P (sym (get_or-map-range_with_len (word_of_new n c) 0 128 j j 0 lt (zero-add j)))
    (cond_both (ltb j c) (join n 1 1 j) (join n 0 1 (bottom n)) P (λ _. omega arith) (λ _. omega arith)))
    (λ ge. subst P (sym (get_or_past (map (word_of_new n c) (range_with_len 0 128)) j 0 (simp length-map-range_with_len ge))) (omega arith))
    (cases_lt j 128)
