-- The numbers of the tickets from Head to Tail, as items come and go.
use Rattle.std.proofs.Common.{◌≡◌, ℕ, ◌+◌, ◌<◌, ◌≤◌, ◌⊎◌, Some, None, sym, ap, ◌∙◌, subst, inl, inr, ⊎_elim, arith}
use Rattle.std.proofs.lemmas.Bool.{cases_lt}
use Rattle.std.proofs.lemmas.Option.{same_Some}
use Rattle.ring.specs.Cells.{put}
use Rattle.ring.proofs.Entries.{put_same, put_other}
use Rattle.ring.proofs.Steps.{had, has_still, has_now}
use Rattle.scq_table.specs.declared.Stage.{Stage}
use Rattle.scq_table.specs.declared.Stage.TheVariants.{A1, A2}
use Rattle.scq_table.specs.Table.{slot, Memory, with_tail}
use Rattle.scq_table.specs.Stands.{pair, writes, brings, Item, Charged, Sound}
use Rattle.scq_table.proofs.Stations.{brings_writes, brings_low, writes_low}

-- no ticket from Head to Tail
pub charged_none : (m : Memory) (at : ℕ → Stage) (charge : ℕ → ℕ) → m.tail ≤ m.head → Charged m at charge
charged_none m at charge l = record {
  low = λ t a b. absurd (omega arith);
  apart = λ t u a b. absurd (omega arith);
  to_item = λ t i a b. absurd (omega arith);
  from_item = λ t a b. absurd (omega arith);
  from_older = λ t u i a b. absurd (omega arith);
}

-- no new ticket and no new item, and each item from Head to Tail is there still
pub charged_less : (m m' : Memory) (at at' : ℕ → Stage) (charge : ℕ → ℕ) → m'.places ≡ m.places → m.head ≤ m'.head → m'.tail ≤ m.tail →
    ((t i : ℕ) → Item m' at' t i → Item m at t i) → ((t i : ℕ) → m'.head ≤ t → Item m at t i → Item m' at' t i) →
    Charged m at charge → Charged m' at' charge
charged_less m m' at at' charge same up down back on c = record {
  low = λ t a b. omega (arith, c.low t (omega arith) (omega arith));
  apart = λ t u a b d e. c.apart t u (omega arith) (omega arith) (omega arith) (omega arith);
  to_item = λ t i a b x. c.to_item t i (omega arith) (omega arith) (back t i x);
  from_item = λ t a b l. on t (charge t) a (c.from_item t (omega arith) (omega arith) (omega arith));
  from_older = λ t u i a b e x. subst (λ n. (t < u) ⊎ ((u < t) × (slot n u ≡ slot n t))) (sym same)
      (c.from_older t u i (omega arith) (omega arith) (e ∙ ap (λ n. n + i) same) (back u i x));
}

module _ (m : Memory) (k : ℕ) (at : ℕ → Stage) (charge : ℕ → ℕ) (h : Sound m k at charge)
    (s : ℕ) (at' : ℕ → Stage) (st : Stage) (mine : at' s ≡ st) (others : (r : ℕ) → (r ≡ s → ⊥) → at' r ≡ at r) where
  -- an index that the station is to write, and that it has no ticket for, is in no item
  unplaced : (i : ℕ) → writes (at s) ≡ Some i → brings (at s) ≡ None → (t : ℕ) → Item m at t i → ⊥
  unplaced i w b t (inl p) = h.not_both t s i p w
  unplaced i w b t (inr p) =
      let same : p.0 ≡ s = h.one_writer p.0 s i (brings_writes (at p.0) t i p.1) w in
      cc

  -- the items are the same, where the station's is
  pub item_back : (m' : Memory) → ((t i : ℕ) → pair m' t ≡ Some i → pair m t ≡ Some i) → ((t i : ℕ) → brings st ≡ Some (t, i) → Item m at t i) →
      (t i : ℕ) → Item m' at' t i → Item m at t i
  item_back m' pairs own t i (inl p) = inl (pairs t i p)
  item_back m' pairs own t i (inr p) = ⊎_elim (λ a. own t i a.1) (λ a. inr (p.0, a.1)) (had at at' s st mine others brings p.0 (t, i) p.1)

  pub item_on : (m' : Memory) (t i : ℕ) → (pair m t ≡ Some i → pair m' t ≡ Some i) → (brings (at s) ≡ Some (t, i) → Item m' at' t i) →
      Item m at t i → Item m' at' t i
  item_on m' t i pairs own (inl p) = inl (pairs p)
  item_on m' t i pairs own (inr p) = ⊎_elim own inr (has_still at at' s st mine others brings (t, i) p)

-- A1: the station has got Tail's ticket for index i
module _ (m : Memory) (k : ℕ) (at : ℕ → Stage) (charge : ℕ → ℕ) (h : Sound m k at charge)
    (s : ℕ) (at' : ℕ → Stage) (others : (r : ℕ) → (r ≡ s → ⊥) → at' r ≡ at r)
    (i : ℕ) (was : at s ≡ A1 i) (mine : at' s ≡ A2 i m.tail) where
  abbrev ticketed : Memory
  ticketed = with_tail m (m.tail + 1)

  abbrev pub with_ticket : ℕ → ℕ
  with_ticket = put charge m.tail i

  small : i < m.places
  small = writes_low m (at s) i (h.fits s) (ap writes was)

  at_end : (t : ℕ) → t ≡ m.tail → with_ticket t ≡ i
  at_end t e = ap with_ticket e ∙ put_same charge m.tail i

  before : (t : ℕ) → t < m.tail → with_ticket t ≡ charge t
  before t l = put_other charge m.tail i t (λ e. omega arith)

  old_or_new : (t j : ℕ) → Item ticketed at' t j → (Item m at t j × (t < m.tail)) ⊎ ((t ≡ m.tail) × (i ≡ j))
  old_or_new t j (inl p) = inl (inl p, h.shared.pairs_low t j p)
  old_or_new t j (inr p) = ⊎_elim
      (λ a. let e = same_Some _ _ a.1 in inr (sym (ap (λ x. x.0) e), ap (λ x. x.1) e))
      (λ a. inl (inr (p.0, a.1), brings_low m (at p.0) t j (h.fits p.0) a.1))
      (had at at' s (A2 i m.tail) mine others brings p.0 (t, j) p.1)

  fresh : (t : ℕ) → m.head ≤ t → t < m.tail → charge t ≡ i → ⊥
  fresh t a b e = unplaced m k at charge h s at' (A2 i m.tail) mine others i (ap writes was) (ap brings was) t
      (subst (Item m at t) e (h.charged.from_item t a b (omega (arith, small))))

  still : (t j : ℕ) → Item m at t j → Item ticketed at' t j
  still t j = item_on m k at charge h s at' (A2 i m.tail) mine others ticketed t j (λ p. p)
      (λ p. absurd (cc))

  pub charged_ticket : Charged ticketed at' with_ticket
  charged_ticket = record {
    low = λ t a b. ⊎_elim
        (λ l. omega (arith, before t l, h.charged.low t a l))
        (λ g. let e : t ≡ m.tail = omega arith in omega (arith, at_end t e, small))
        (cases_lt t m.tail);
    apart = λ t u a b c d e. ⊎_elim
        (λ l. ⊎_elim
        (λ r. h.charged.apart t u a l c r (sym (before t l) ∙ (e ∙ before u r)))
        (λ g. absurd (fresh t a l (sym (before t l) ∙ (e ∙ at_end u (omega arith)))))
        (cases_lt u m.tail))
        (λ g. ⊎_elim
        (λ r. absurd (fresh u c r (sym (before u r) ∙ (sym e ∙ at_end t (omega arith)))))
        (λ f. omega arith)
        (cases_lt u m.tail))
        (cases_lt t m.tail);
    to_item = λ t j a b x. ⊎_elim
        (λ o. before t o.1 ∙ h.charged.to_item t j a o.1 o.0)
        (λ o. at_end t o.0 ∙ o.1)
        (old_or_new t j x);
    from_item = λ t a b l. ⊎_elim
        (λ o. let e = before t o in
        subst (Item ticketed at' t) (sym e) (still t (charge t) (h.charged.from_item t a o (omega arith))))
        (λ g. let e : t ≡ m.tail = omega arith in
        inr (has_now at at' s (A2 i m.tail) mine others brings (t, with_ticket t) (cc (at_end t e))))
        (cases_lt t m.tail);
    from_older = λ t u j a b e x. ⊎_elim
        (λ l. ⊎_elim
        (λ o. h.charged.from_older t u j a l (sym (before t l) ∙ e) o.0)
        (λ o. inl (omega (arith, o.0)))
        (old_or_new u j x))
        (λ g. absurd (omega (arith, at_end t (omega arith), small)))
        (cases_lt t m.tail);
  }
