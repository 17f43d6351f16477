-- A test of all numbers below a bound, and what one other answer changes.
use Rattle.std.proofs.Common.{◌≡◌, ℕ, zero, suc, ◌+◌, ◌<◌, ◌≤◌, Bool, true, false, cond, ◌||◌, Decides, List, take, length, get_or, sym, refl, ap, ◌∙◌, ap₂, ⊎_elim, add-one, zero-add, arith}
use Rattle.std.proofs.Math.Bool.{or_comm}
use Rattle.std.proofs.lemmas.Bool.{cases_eq}
use Rattle.std.proofs.lemmas.List.{take_all}
use Rattle.std.proofs.lemmas.List.Folds.{list_any_more}
use Rattle.std.proofs.lemmas.List.FromFn.{length-range_with_len, get_or-range_with_len}
use Rattle.std.specs.List.{list_any, range_with_len}
use Rattle.std.proofs.lemmas.Bool.Decides.{Decides-below_or}
use Rattle.ring.specs.Scans.{any_below, count_below}

decides : (c : ℕ) (test : ℕ → Bool) → Decides (any_below c test) ((j : ℕ) × (j < c) × (test j ≡ true))
decides c test = Decides-below_or test (λ j. test j ≡ true) (λ c. any_below c test) (λ j. (λ x. x, λ x. x)) refl (λ x. refl) c

pub any_found : (c : ℕ) (test : ℕ → Bool) → any_below c test ≡ true → (j : ℕ) × (j < c) × (test j ≡ true)
any_found c test = (decides c test).0

pub any_from : (c : ℕ) (test : ℕ → Bool) (j : ℕ) → j < c → test j ≡ true → any_below c test ≡ true
any_from c test j l t = (decides c test).1 (j, l, t)

any_same : (c : ℕ) (test other : ℕ → Bool) → ((j : ℕ) → j < c → test j ≡ other j) → any_below c test ≡ any_below c other
any_same zero test other same = refl
any_same (suc c) test other same = ap₂ (λ x y. x || y) (same c (omega arith)) (any_same c test other (λ j l. same j (omega arith)))

-- a chain that asks each of the first k elements of xs, or each number below k

pub list_any-take : {S : Type 0} (test : S → Bool) (xs : List S) (k : ℕ) (d : S) → k ≤ length xs → list_any test (take k xs) ≡ any_below k (λ s. test (get_or xs s d))
list_any-take test xs zero d h = refl
list_any-take test xs (suc k) d h =
    ap (λ n. list_any test (take n xs)) (sym (add-one k)) ∙ (list_any_more test xs k d (omega arith) ∙
    (or_comm (list_any test (take k xs)) _ ∙ ap (λ b. test (get_or xs k d) || b) (list_any-take test xs k d (omega arith))))

pub list_any-range : (test : ℕ → Bool) (n : ℕ) → list_any test (range_with_len 0 n) ≡ any_below n test
list_any-range test n =
    let long = length-range_with_len 0 n in
    ap (list_any test) (sym (take_all n (range_with_len 0 n) (omega (arith, long)))) ∙
    (list_any-take test (range_with_len 0 n) n 0 (omega (arith, long)) ∙
    any_same n _ test (λ j l. ap test (get_or-range_with_len 0 n j 0 l ∙ zero-add j)))

-- counts

abbrev pub one_if : Bool → ℕ
one_if b = cond b 1 0

at_most_one : (b : Bool) → one_if b ≤ 1
at_most_one true = omega arith
at_most_one false = omega arith

pub count_most : (c : ℕ) (test : ℕ → Bool) → count_below c test ≤ c
count_most zero test = omega arith
count_most (suc c) test = omega (arith, at_most_one (test c), count_most c test)

-- a number that does not pass is not counted
pub count_fewer : (c : ℕ) (test : ℕ → Bool) (j : ℕ) → j < c → test j ≡ false → count_below c test < c
count_fewer zero test j l e = absurd (omega arith)
count_fewer (suc c) test j l e = ⊎_elim
    (λ q. omega (arith, ap one_if (ap test (sym q) ∙ e), count_most c test))
    (λ d. omega (arith, at_most_one (test c), count_fewer c test j (omega arith) e))
    (cases_eq j c)

-- one that passes is
pub count_some : (c : ℕ) (test : ℕ → Bool) (j : ℕ) → j < c → test j ≡ true → 1 ≤ count_below c test
count_some zero test j l e = absurd (omega arith)
count_some (suc c) test j l e = ⊎_elim
    (λ q. omega (arith, ap one_if (ap test (sym q) ∙ e)))
    (λ d. omega (arith, count_some c test j (omega arith) e))
    (cases_eq j c)

pub count_same : (c : ℕ) (test other : ℕ → Bool) → ((j : ℕ) → j < c → test j ≡ other j) → count_below c test ≡ count_below c other
count_same zero test other same = refl
count_same (suc c) test other same = ap₂ (λ x y. one_if x + y) (same c (omega arith)) (count_same c test other (λ j l. same j (omega arith)))

-- two tests that differ at s alone
pub count_moved : (c : ℕ) (test other : ℕ → Bool) (s : ℕ) → s < c → ((j : ℕ) → (j ≡ s → ⊥) → test j ≡ other j) →
    count_below c test + one_if (other s) ≡ count_below c other + one_if (test s)
count_moved zero test other s l same = absurd (omega arith)
count_moved (suc c) test other s l same = ⊎_elim
    (λ q. let rest = count_same c test other (λ j k. same j (λ p. omega arith)) in
    omega (arith, ap (λ x. one_if (test x)) q, ap (λ x. one_if (other x)) q))
    (λ d. omega (arith, ap one_if (same c (λ p. d (sym p))), count_moved c test other s (omega arith) same))
    (cases_eq s c)
