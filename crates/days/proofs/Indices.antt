-- Which indices are in a ring, before and after a call of it.
use Rattle.std.proofs.Common.{◌≡◌, ℕ, ◌<◌, false, ◌⊎◌, Some, None, sym, ap, ◌∙◌, inl, inr, ⊎_elim}
use Rattle.std.proofs.lemmas.Bool.{cases_eq}
use Rattle.ring.specs.declared.Progress.{Progress}
use Rattle.ring.specs.declared.Progress.TheVariants.{Taken}
use Rattle.ring.specs.Model.{adding, seeking, Model, EachOnce}
use Rattle.ring.specs.Meaning.{OthersStay, Begun}
use Rattle.days.proofs.Rings.{Inside, Step, seeks, finds_none, takes, adds, enters, closes, added}

pub inside_low : (m : Model) → EachOnce m → (i : ℕ) → Inside m i → i < m.places
inside_low m once i (inl (t, e)) = once.pair_below t i e
inside_low m once i (inr (s, f, e)) = once.added_below s i f e

-- begins

module _ (m : Model) (s f : ℕ) (m' : Model) (b : Begun m s (seeking f None false) m') where
  pub seek_inside_after : (j : ℕ) → Inside m' j → Inside m j
  seek_inside_after j (inl (t, e)) = inl (t, sym (b.pairs t) ∙ e)
  seek_inside_after j (inr (r, g, e)) = ⊎_elim
      (λ same. absurd (cc))
      (λ other. inr (r, g, sym (b.others r other) ∙ e))
      (cases_eq r s)

  pub seek_inside_kept : (j : ℕ) → Inside m j → Inside m' j
  seek_inside_kept j (inl (t, e)) = inl (t, b.pairs t ∙ e)
  seek_inside_kept j (inr (r, g, e)) = ⊎_elim
      (λ same. absurd (cc))
      (λ other. inr (r, g, b.others r other ∙ e))
      (cases_eq r s)

module _ (m : Model) (s i f : ℕ) (m' : Model) (b : Begun m s (adding i f) m') where
  pub add_inside_now : Inside m' i
  add_inside_now = inr (s, f, b.does_now)

  pub add_inside_after : (j : ℕ) → Inside m' j → Inside m j ⊎ (j ≡ i)
  add_inside_after j (inl (t, e)) = inl (inl (t, sym (b.pairs t) ∙ e))
  add_inside_after j (inr (r, g, e)) = ⊎_elim
      (λ same. inr (cc))
      (λ other. inl (inr (r, g, sym (b.others r other) ∙ e)))
      (cases_eq r s)

  pub add_inside_kept : (j : ℕ) → Inside m j → Inside m' j
  add_inside_kept j (inl (t, e)) = inl (t, b.pairs t ∙ e)
  add_inside_kept j (inr (r, g, e)) = ⊎_elim
      (λ same. absurd (cc))
      (λ other. inr (r, g, b.others r other ∙ e))
      (cases_eq r s)

-- turns

module _ (m : Model) (s : ℕ) (p : Progress) (m' : Model) (others : OthersStay m s m') where
  -- the pairs after a turn were there before it, but for the one that enters
  pair_after : Step m s p m' → (t j : ℕ) → m'.under t ≡ Some j → Inside m j
  pair_after (seeks f held bare held' bare' d a x y z) t j e = inl (t, sym (y t) ∙ e)
  pair_after (finds_none f held bare d a x y z) t j e = inl (t, sym (y t) ∙ e)
  pair_after (takes f held bare v i d a x y z g) t j e = ⊎_elim
      (λ same. absurd (cc))
      (λ other. inl (t, sym (y.rest t other) ∙ e))
      (cases_eq t v)
  pair_after (adds i f d a x y) t j e = inl (t, sym (y t) ∙ e)
  pair_after (enters i f v d a x y z w) t j e = ⊎_elim
      (λ same. inr (s, f, cc))
      (λ other. inl (t, sym (y.rest t other) ∙ e))
      (cases_eq t v)
  pair_after (closes v d a x y) t j e = inl (t, sym (y t) ∙ e)
  pair_after (added v d a x y z) t j e = inl (t, sym (y t) ∙ e)

  adds_after : Step m s p m' → (j g : ℕ) → m'.doing s ≡ adding j g → m.doing s ≡ adding j g
  adds_after (seeks f held bare held' bare' d a x y z) j g e = cc
  adds_after (finds_none f held bare d a x y z) j g e = cc
  adds_after (takes f held bare v i d a x y z c) j g e = cc
  adds_after (adds i f d a x y) j g e = cc
  adds_after (enters i f v d a x y z w) j g e = cc
  adds_after (closes v d a x y) j g e = cc
  adds_after (added v d a x y z) j g e = cc

  pub inside_after : Step m s p m' → (j : ℕ) → Inside m' j → Inside m j
  inside_after st j (inl (t, e)) = pair_after st t j e
  inside_after st j (inr (r, g, e)) = ⊎_elim
      (λ same. inr (s, g, adds_after st j g (ap m'.doing (sym same) ∙ e)))
      (λ other. inr (r, g, sym (others r other) ∙ e))
      (cases_eq r s)

  -- the pairs before a turn are there after it, but for the one that leaves
  pair_kept : Step m s p m' → (t j : ℕ) → (p ≡ Taken (Some j) → ⊥) → m.under t ≡ Some j → m'.under t ≡ Some j
  pair_kept (seeks f held bare held' bare' d a x y z) t j n e = y t ∙ e
  pair_kept (finds_none f held bare d a x y z) t j n e = y t ∙ e
  pair_kept (takes f held bare v i d a x y z g) t j n e = ⊎_elim
      (λ same. absurd (n (cc)))
      (λ other. y.rest t other ∙ e)
      (cases_eq t v)
  pair_kept (adds i f d a x y) t j n e = y t ∙ e
  pair_kept (enters i f v d a x y z w) t j n e = ⊎_elim
      (λ same. cc)
      (λ other. y.rest t other ∙ e)
      (cases_eq t v)
  pair_kept (closes v d a x y) t j n e = y t ∙ e
  pair_kept (added v d a x y z) t j n e = y t ∙ e

  adder_kept : Step m s p m' → (j g : ℕ) → m.doing s ≡ adding j g → Inside m' j
  adder_kept (seeks f held bare held' bare' d a x y z) j g e = absurd (cc)
  adder_kept (finds_none f held bare d a x y z) j g e = absurd (cc)
  adder_kept (takes f held bare v i d a x y z c) j g e = absurd (cc)
  adder_kept (adds i f d a x y) j g e = inr (s, g, x ∙ (sym d ∙ e))
  adder_kept (enters i f v d a x y z w) j g e = inl (v, cc)
  adder_kept (closes v d a x y) j g e = absurd (cc)
  adder_kept (added v d a x y z) j g e = absurd (cc)

  pub inside_kept : Step m s p m' → (j : ℕ) → (p ≡ Taken (Some j) → ⊥) → Inside m j → Inside m' j
  inside_kept st j n (inl (t, e)) = inl (t, pair_kept st t j n e)
  inside_kept st j n (inr (r, g, e)) = ⊎_elim
      (λ same. adder_kept st j g (ap m.doing (sym same) ∙ e))
      (λ other. inr (r, g, others r other ∙ e))
      (cases_eq r s)
