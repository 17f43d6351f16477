-- An array that is made by a closure that answers with a function of the index.
use Rattle.std.proofs.Common.{◌≡◌, ℕ, zero, suc, ◌+◌, ◌<◌, ◌≤◌, List, map, get_or, refl, sym, ◌∙◌, subst, ⊎_elim, arith}
use Rattle.std.proofs.lemmas.Bool.{cases_eq}
use Rattle.std.proofs.lemmas.List.FromFn.{fill_by_all}
use Rattle.std.specs.Array.{IsFromFnResult, IsFromFnResultFrom}
use Rattle.std.specs.Fn.{Called}
use Rattle.std.specs.List.{range_with_len}
use denote.Param.Members.{Mut}

module _ {F B : Type 0} (g : Mut F (ℕ × Unit {0}) B) (f : F) (h : ℕ → B) (answers : (i : ℕ) (y : B) (q : F) → Called g f (i, tt) y q → (q ≡ f) × (y ≡ h i)) (ys : List B) where
  made_at : (i n : ℕ) (p : F) → p ≡ f → IsFromFnResultFrom g p ys i n → (k : ℕ) (d : B) → i ≤ k → k < i + n → get_or ys k d ≡ h k
  made_at i zero p e made k d low high = absurd (omega arith)
  made_at i (suc n) p e made k d low high =
      let now = answers i made.1 made.0 (subst (λ x. Called g x (i, tt) made.1 made.0) e made.3) in
      ⊎_elim
      (λ here. subst (λ j. get_or ys j d ≡ h j) (sym here) (made.2.1 d ∙ now.1))
      (λ later. made_at (i + 1) n made.0 now.0 made.4 k d (omega arith) (omega arith))
      (cases_eq k i)

  pub from_fn_is : (n : ℕ) (d : B) → IsFromFnResult g f ys n → ys ≡ map h (range_with_len 0 n)
  from_fn_is n d made = fill_by_all h ys n d made.long (λ k l. made_at 0 n f refl made.each k d (omega arith) (omega arith))
