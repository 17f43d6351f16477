-- What the answer to the three questions about sizes says.
use Rattle.std.proofs.Common.{◌≡◌, ℕ, zero, suc, ◌*◌, ◌^◌, ◌≤◌, true, false, ◌&&◌, eqb, leb, refl, ap, ◌∙◌, ⊎_elim, arith, pow_pos, pow_mono, subst, Ok, Err}
use Rattle.std.proofs.lemmas.Bool.{cond_both, eqb-true, or_cases, both_ways}
use Rattle.std.proofs.lemmas.Bool.Decides.{nat_tests}
use Rattle.ring.specs.Sizes.{Sized, Crewed, Limited, places, stations, limit, is_size, MakeRefused, make_checked, Checked}
use Rattle.ring.specs.declared.Refusal.{Refusal}

power : (b : ℕ) → b ≤ 6 → is_size (2 ^ b) ≡ true
power zero h = refl
power (suc zero) h = refl
power (suc (suc zero)) h = refl
power (suc (suc (suc zero))) h = refl
power (suc (suc (suc (suc zero)))) h = refl
power (suc (suc (suc (suc (suc zero))))) h = refl
power (suc (suc (suc (suc (suc (suc zero)))))) h = refl
power (suc (suc (suc (suc (suc (suc (suc b))))))) h = absurd (omega arith)

sized_true : (n : ℕ) → is_size n ≡ true → Sized n
sized_true n e =
    ⊎_elim (λ e. (0, omega arith, eqb-true n 1 e)) (λ e.
    ⊎_elim (λ e. (1, omega arith, eqb-true n 2 e)) (λ e.
    ⊎_elim (λ e. (2, omega arith, eqb-true n 4 e)) (λ e.
    ⊎_elim (λ e. (3, omega arith, eqb-true n 8 e)) (λ e.
    ⊎_elim (λ e. (4, omega arith, eqb-true n 16 e)) (λ e.
    ⊎_elim (λ e. (5, omega arith, eqb-true n 32 e)) (λ e. (6, omega arith, eqb-true n 64 e))
    (or_cases (eqb n 32) _ e)) (or_cases (eqb n 16) _ e)) (or_cases (eqb n 8) _ e)) (or_cases (eqb n 4) _ e)) (or_cases (eqb n 2) _ e)) (or_cases (eqb n 1) _ e)

sized_false : (n : ℕ) → is_size n ≡ false → Sized n → ⊥
sized_false n e p = both_ways (is_size n) e (ap is_size p.2 ∙ power p.0 p.1)

pub checked : (n k l : ℕ) → Checked n k l (make_checked n k l)
checked n k l =
    cond_both (is_size n) _ _ (Checked n k l)
    (λ e. cond_both (leb 1 k && leb k n) _ _ (Checked n k l)
    (λ f. cond_both (leb (4 * n) l && leb l 999999999) _ _ (Checked n k l)
    (λ g. (sized_true n e, grind (arith, nat_tests), grind (arith, nat_tests)))
    (λ g. limit refl (sized_true n e) (grind (arith, nat_tests)) (λ p. grind (arith, nat_tests))))
    (λ f. stations refl (sized_true n e) (λ p. grind (arith, nat_tests))))
    (λ e. places refl (sized_false n e))

pub sized_low : (n : ℕ) → Sized n → 1 ≤ n
sized_low n p = omega (arith, p.2, pow_pos p.0)

pub sized_high : (n : ℕ) → Sized n → n ≤ 64
sized_high n p = omega (arith, p.2, pow_mono {j = 6} p.1)

pub refused_as : (n k l : ℕ) (e : Refusal) → make_checked n k l ≡ Err e → MakeRefused n k l e
refused_as n k l e p = subst (Checked n k l) p (checked n k l)

pub accepted_as : (n k l : ℕ) → make_checked n k l ≡ Ok tt → Sized n × Crewed n k × Limited n l
accepted_as n k l p = subst (Checked n k l) p (checked n k l)
