-- What a row leaves.
use Rattle.std.proofs.Common.{◌≡◌, ℕ, ◌<◌, List, get_or, set, Ok, Err, Result, sym, refl, subst}
use Rattle.std.proofs.lemmas.List.{set-get_or}
use Rattle.ring.specs.declared.Progress.{Progress}
use Rattle.ring.specs.declared.Refusal.{Refusal}
use Rattle.ring.specs.Tables.{Row, Steps, applied}
use Rattle.ring.specs.Bounds.{KeepsBounds}

module _ {M S : Type 0} (t : Steps M S) (fits : ℕ → M → S → Type 0) (bounded : ℕ → ℕ → M → List S → Type 0) (keeps : KeepsBounds M S t fits bounded)
    (k l : ℕ) (m : M) (xs : List S) (s : ℕ) (here : s < k) (all : bounded k l m xs) where
  by_row : (r : Row M S) → r ≡ t.step m l (get_or xs s t.idle) → (told : Result Progress Refusal) (m' : M) (st' : S) →
      (told, m', st') ≡ applied r m (get_or xs s t.idle) → bounded k l m' (set xs s st')
  by_row (Ok (a, x, st)) e told m' st' p =
      subst (λ y. bounded k l y.1 (set xs s y.2)) (sym p) (keeps.stepped k l m x xs s a st all here (sym e))
  by_row (Err x) e told m' st' p =
      subst (λ y. bounded k l y.1 (set xs s y.2)) (sym p) (subst (bounded k l m) (sym (set-get_or xs s t.idle)) all)

  -- the bounds of all after the row of step st, carried out or refused
  pub row_bounded : (st : S) → st ≡ get_or xs s t.idle → (told : Result Progress Refusal) (m' : M) (st' : S) →
      (told, m', st') ≡ applied (t.step m l st) m st → bounded k l m' (set xs s st')
  row_bounded st e told m' st' p =
      by_row (t.step m l (get_or xs s t.idle)) refl told m' st' (subst (λ x. (told, m', st') ≡ applied (t.step m l x) m x) e p)
