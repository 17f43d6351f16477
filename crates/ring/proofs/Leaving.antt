-- The index of a pair that leaves is outside.
use Rattle.std.proofs.Common.{◌≡◌, ℕ, Some, None, sym, ◌∙◌, ⊎_elim}
use Rattle.std.proofs.lemmas.Bool.{cases_eq}
use Rattle.ring.specs.Model.{idle, Model, Outside, EachOnce}
use Rattle.ring.specs.Meaning.{OthersStay}

-- station s took the pair of ticket t and index i, and is idle
pub left_outside : (m m' : Model) (s t i : ℕ) → EachOnce m → m.under t ≡ Some i → m'.under t ≡ None →
    ((u : ℕ) → (u ≡ t → ⊥) → m'.under u ≡ m.under u) → m'.doing s ≡ idle → OthersStay m s m' → Outside m' i
left_outside m m' s t i once before after rest ends others = (
  (λ u p. ⊎_elim
      (λ e. cc)
      (λ e. e (once.one_pair u t i (sym (rest u e) ∙ p) before))
      (cases_eq u t)),
  (λ r f p. ⊎_elim
      (λ e. cc)
      (λ e. once.not_both t r i f before (sym (others r e) ∙ p))
      (cases_eq r s)),
)
