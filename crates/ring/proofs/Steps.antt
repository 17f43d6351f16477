-- Station s has come to step st, and the others have stayed.
use Rattle.std.proofs.Common.{◌≡◌, ℕ, ◌⊎◌, Some, Option, sym, subst, inl, inr, ⊎_elim}
use Rattle.std.proofs.lemmas.Bool.{cases_eq}

module _ {Stage : Type 0} (at at' : ℕ → Stage) (s : ℕ) (st : Stage) (mine : at' s ≡ st) (others : (r : ℕ) → (r ≡ s → ⊥) → at' r ≡ at r) where
  pub by_station : (P : ℕ → Stage → Type 0) → P s st → ((r : ℕ) → (r ≡ s → ⊥) → P r (at r)) → (r : ℕ) → P r (at' r)
  by_station P here there r = ⊎_elim
      (λ e. subst (λ x. P x (at' x)) (sym e) (subst (P s) (sym mine) here))
      (λ e. subst (P r) (sym (others r e)) (there r e))
      (cases_eq r s)

  module _ {X : Type 0} (f : Stage → Option X) where
    -- who has a number now: the station itself, or another that had it
    pub had : (r : ℕ) (x : X) → f (at' r) ≡ Some x → ((r ≡ s) × (f st ≡ Some x)) ⊎ ((r ≡ s → ⊥) × (f (at r) ≡ Some x))
    had r x p = ⊎_elim (λ e. inl (e, cc)) (λ e. inr (e, cc (others r e))) (cases_eq r s)

    -- who had one has it still, but perhaps the station itself
    pub has_still : (x : X) → ((r : ℕ) × (f (at r) ≡ Some x)) → (f (at s) ≡ Some x) ⊎ ((r : ℕ) × (f (at' r) ≡ Some x))
    has_still x p = ⊎_elim (λ e. inl (cc)) (λ e. inr (p.0, cc (others p.0 e))) (cases_eq p.0 s)

    pub has_now : (x : X) → f st ≡ Some x → (r : ℕ) × (f (at' r) ≡ Some x)
    has_now x p = (s, cc)

    -- where the station has no number that another had
    pub one_still : ((r t : ℕ) (x : X) → f (at r) ≡ Some x → f (at t) ≡ Some x → r ≡ t) →
        ((x : X) → f st ≡ Some x → (f (at s) ≡ Some x) ⊎ ((r : ℕ) → f (at r) ≡ Some x → ⊥)) →
        (r t : ℕ) (x : X) → f (at' r) ≡ Some x → f (at' t) ≡ Some x → r ≡ t
    one_still one from r t x p q = ⊎_elim
        (λ a. ⊎_elim (λ b. cc) (λ b. absurd (clash t a.1 b.0 b.1)) (had t x q))
        (λ a. ⊎_elim (λ b. absurd (clash r b.1 a.0 a.1)) (λ b. one r t x a.1 b.1) (had t x q))
        (had r x p)
      where
        clash : (t : ℕ) → f st ≡ Some x → (t ≡ s → ⊥) → f (at t) ≡ Some x → ⊥
        clash t a b c = ⊎_elim (λ d. b (one t s x c d)) (λ d. d t c) (from x a)
