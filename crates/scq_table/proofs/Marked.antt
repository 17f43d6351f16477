-- What a write leaves of pairs, registers and dead tickets that makes a word with an older pair unsafe.
use Rattle.std.proofs.Common.{◌≡◌, ℕ, ◌<◌, ◌⊎◌, Some, sym, refl, ap, ◌∙◌, subst, inr, ⊎_elim, arith}
use Rattle.std.proofs.lemmas.Bool.{cases_eq}
use Rattle.scq_table.specs.declared.Stage.{Stage}
use Rattle.scq_table.specs.Table.{cycle, slot, word_cycle, safe, index, bottom, Memory, word, with_word}
use Rattle.scq_table.specs.Stands.{Blank, Seen, pair, swaps, Fits, Shared, Dead}
use Rattle.scq_table.proofs.Pairs.{SameSlot, same_word}
use Rattle.scq_table.proofs.Stations.{swaps_seen, fits_on}
use Rattle.scq_table.proofs.Writes.{word_here, by_slot, seen_there, dead_there, shared_on}

-- T5 over an older pair: w' has the pair still, and is not safe
module _ (m : Memory) (h : Shared m) (u w' : ℕ)
    (same_cycle : word_cycle m.places w' ≡ word_cycle m.places (word m u)) (same_index : index m.places w' ≡ index m.places (word m u))
    (unsafe' : safe m.places w' ≡ 0) (taken' : Blank m (word m u) → ⊥) (earlier : word_cycle m.places (word m u) < cycle m.places u) where
  abbrev marked : Memory
  marked = with_word m u w'

  marked_cycle : (t : ℕ) → word_cycle m.places (word marked t) ≡ word_cycle m.places (word m t)
  marked_cycle = by_slot m h u w' (λ t w. word_cycle m.places w ≡ word_cycle m.places (word m t))
      (λ t e. same_cycle ∙ ap (word_cycle m.places) (same_word m u t (sym e))) (λ t e. refl)

  marked_index : (t : ℕ) → index m.places (word marked t) ≡ index m.places (word m t)
  marked_index = by_slot m h u w' (λ t w. index m.places w ≡ index m.places (word m t))
      (λ t e. same_index ∙ ap (index m.places) (same_word m u t (sym e))) (λ t e. refl)

  pub marked_pair : (t : ℕ) → pair marked t ≡ pair m t
  marked_pair t = cc (marked_cycle t, marked_index t)

  pub marked_shared : Shared marked
  marked_shared = shared_on m h u w'
      (λ t. subst (λ i. (i ≡ bottom m.places) ⊎ (i < m.places)) (sym (marked_index t)) (h.indices t))
      (λ t i p. h.pairs_low t i (sym (marked_pair t) ∙ p))
      (λ t c b. h.blanks_low t (sym (marked_cycle t) ∙ c) (sym (marked_index t) ∙ b))
      (λ t v i p q. h.one_pair t v i (sym (marked_pair t) ∙ p) (sym (marked_pair v) ∙ q))

  -- an empty word is not the one that was there
  seen_marked : (t e : ℕ) → SameSlot m t u → Seen m t e → word_cycle m.places e < word_cycle m.places (word m t)
  seen_marked t e q p = ⊎_elim (λ s. absurd (taken' (sym (ap (index m.places) (s ∙ same_word m t u q)) ∙ p.0))) (λ l. l) p.2

  pub marked_fits : (st : Stage) → Fits m st → Fits marked st
  marked_fits st = fits_on m m.head m.tail m.threshold _ (omega arith) (omega arith) st seen
      (λ x o p c b. p (sym (marked_cycle x) ∙ c) (sym (marked_index x) ∙ b))
      (λ x e o c i b. (marked_cycle x ∙ c, marked_index x ∙ i))
    where
      seen : (t e : ℕ) → Seen m t e → Seen marked t e
      seen t e p = ⊎_elim
          (λ q. (p.0, p.1, inr (omega (arith, marked_cycle t, seen_marked t e q p))))
          (λ q. seen_there m h u w' t e q p)
          (cases_eq (slot m.places t) (slot m.places u))

  module _ (at at' : ℕ → Stage) (fits : (r : ℕ) → Fits m (at r)) (swaps_from : (r x e : ℕ) → swaps (at' r) ≡ Some (x, e) → swaps (at r) ≡ Some (x, e)) where
    -- no compare-and-set is for the new word
    no_swap_marked : (t r x : ℕ) → SameSlot m t u → swaps (at' r) ≡ Some (x, word marked t) → ⊥
    no_swap_marked t r x e p =
        let seen = swaps_seen m (at r) x (word marked t) (fits r) (swaps_from r x (word marked t) p) in
        taken' (sym same_index ∙ (sym (ap (index m.places) (word_here m h u w' t e)) ∙ seen.0))

    pub marked_dead : Dead marked at' u
    marked_dead = Dead.unsafe (omega (arith, marked_cycle u)) (ap (safe m.places) (word_here m h u w' u refl) ∙ unsafe')
        (λ r x p y. absurd (no_swap_marked u r x refl p))

    pub marked_dead_on : (t : ℕ) → Dead m at t → Dead marked at' t
    marked_dead_on t d = ⊎_elim (λ e. here e d) (λ e. dead_there m h u w' at at' swaps_from t e d) (cases_eq (slot m.places t) (slot m.places u))
      where
        here : SameSlot m t u → Dead m at t → Dead marked at' t
        here e (Dead.overtaken a) = Dead.overtaken (omega (arith, marked_cycle t))
        here e (Dead.spoilt a b) = Dead.spoilt (marked_cycle t ∙ a) (marked_index t ∙ b)
        here e (Dead.unsafe a b c) = Dead.unsafe (omega (arith, marked_cycle t)) (ap (safe m.places) (word_here m h u w' t e) ∙ unsafe')
            (λ r x p y. absurd (no_swap_marked t r x e p))
