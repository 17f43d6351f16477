-- A function with one value changed, a list with one value throughout, and a list with one value set.
use Rattle.std.proofs.Common.{◌≡◌, ℕ, zero, suc, eqb, List, [], ◌∷◌, get_or, set, replicate, refl}
use Rattle.std.proofs.lemmas.Bool.{eq-eqb, ne_eqb, cond-true, cond-false}
use Rattle.ring.specs.Cells.{put}

pub put_same : {X : Type 0} (f : ℕ → X) (s : ℕ) (x : X) → put f s x s ≡ x
put_same f s x = cond-true (eqb s s) x (f s) (eq-eqb s s refl)

pub put_other : {X : Type 0} (f : ℕ → X) (s : ℕ) (x : X) (r : ℕ) → (r ≡ s → ⊥) → put f s x r ≡ f r
put_other f s x r e = cond-false (eqb r s) x (f r) (ne_eqb r s e)

-- past the end too, since the default is the same
pub get_or-same : {X : Type 0} (n k : ℕ) (x : X) → get_or (replicate n x) k x ≡ x
get_or-same zero k x = refl
get_or-same (suc n) zero x = refl
get_or-same (suc n) (suc k) x = get_or-same n k x

-- what holds of every value and of the one that is set holds of every value after it
pub all_set : {X : Type 0} (P : X → Type 0) (xs : List X) (i : ℕ) (x d : X) → ((k : ℕ) → P (get_or xs k d)) → P x → (k : ℕ) → P (get_or (set xs i x) k d)
all_set P [] i x d all p k = all k
all_set P (y ∷ ys) zero x d all p zero = p
all_set P (y ∷ ys) zero x d all p (suc k) = all (suc k)
all_set P (y ∷ ys) (suc i) x d all p zero = all zero
all_set P (y ∷ ys) (suc i) x d all p (suc k) = all_set P ys i x d (λ j. all (suc j)) p k
