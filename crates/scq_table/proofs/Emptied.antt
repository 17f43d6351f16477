-- What a write of an empty word leaves of pairs, registers and dead tickets.
use Rattle.std.proofs.Common.{◌≡◌, ℕ, ◌*◌, ◌<◌, ◌≤◌, ◌⊎◌, Some, None, sym, refl, ap, ◌∙◌, subst, inl, inr, ⊎_elim, arith}
use Rattle.std.proofs.lemmas.Bool.{cases_eq, cases_lt}
use Rattle.ring.proofs.Tickets.{same_ticket}
use Rattle.scq_table.specs.declared.Stage.{Stage}
use Rattle.scq_table.specs.Table.{cycle, slot, word_cycle, safe, index, bottom, Memory, word, with_word}
use Rattle.scq_table.specs.Stands.{Current, Blank, Seen, Unspoilt, pair, swaps, holds, Fits, Shared, Dead}
use Rattle.scq_table.proofs.Pairs.{SameSlot, same_word, pair_elsewhere, pair_blank, one_current}
use Rattle.scq_table.proofs.Stations.{swaps_seen, fits_on}
use Rattle.scq_table.proofs.Writes.{word_here, word_there, pair_there_still, by_slot, seen_there, unspoilt_there, taken_there, dead_there, shared_on}

-- T4 and T5 over an empty word: w' is empty, of u's cycle, and as safe as the word before it
module _ (m : Memory) (h : Shared m) (u w' : ℕ) (below : u < m.head)
    (cycle' : word_cycle m.places w' ≡ cycle m.places u) (safe' : safe m.places w' ≡ safe m.places (word m u)) (blank' : Blank m w')
    (not_later : word_cycle m.places (word m u) ≤ cycle m.places u) (earlier : Blank m (word m u) → word_cycle m.places (word m u) < cycle m.places u) where
  abbrev m' : Memory
  m' = with_word m u w'

  emptied_word : (t : ℕ) → SameSlot m t u → Blank m' (word m' t)
  emptied_word t e = ap (index m.places) (word_here m h u w' t e) ∙ blank'

  emptied_cycle : (t : ℕ) → SameSlot m t u → word_cycle m.places (word m' t) ≡ cycle m.places u
  emptied_cycle t e = ap (word_cycle m.places) (word_here m h u w' t e) ∙ cycle'

  emptied_current : (t : ℕ) → SameSlot m t u → Current m' t → t ≡ u
  emptied_current t e c = same_ticket (2 * m.places) t u e (sym c ∙ emptied_cycle t e)

  pub emptied_pair : (t i : ℕ) → pair m' t ≡ Some i → pair m t ≡ Some i
  emptied_pair t i p = ⊎_elim
      (λ e. cc (pair_blank m' t (emptied_word t e)))
      (λ e. sym (pair_there_still m h u w' t e) ∙ p)
      (cases_eq (slot m.places t) (slot m.places u))

  pub emptied_none : pair m' u ≡ None
  emptied_none = pair_blank m' u (emptied_word u refl)

  -- a pair under another ticket has another slot
  pub emptied_other : ((Blank m (word m u) → ⊥) → Current m u) → (t : ℕ) → (t ≡ u → ⊥) → pair m' t ≡ pair m t
  emptied_other sole t d = ⊎_elim
      (λ e. pair_blank m' t (emptied_word t e) ∙ sym (none e))
      (λ e. pair_there_still m h u w' t e)
      (cases_eq (slot m.places t) (slot m.places u))
    where
      none : SameSlot m t u → pair m t ≡ None
      none e = ⊎_elim
          (λ b. pair_blank m t b)
          (λ b. pair_elsewhere m t (λ c. d (one_current m t u e c (sole (λ x. b (ap (index m.places) (same_word m t u e) ∙ x))))))
          (cases_eq (index m.places (word m t)) (bottom m.places))

  pub emptied_shared : Shared m'
  emptied_shared = shared_on m h u w'
      (by_slot m h u w' (λ t w. (index m.places w ≡ bottom m.places) ⊎ (index m.places w < m.places)) (λ t e. inl blank') (λ t e. h.indices t))
      (λ t i p. h.pairs_low t i (emptied_pair t i p))
      (λ t c b. ⊎_elim
      (λ e. omega (arith, emptied_current t e c))
      (λ e. let w = word_there m h u w' t e in
      h.blanks_low t (sym (ap (word_cycle m.places) w) ∙ c) (sym (ap (index m.places) w) ∙ b))
      (cases_eq (slot m.places t) (slot m.places u)))
      (λ t v i p q. h.one_pair t v i (emptied_pair t i p) (emptied_pair v i q))

  seen_earlier : (t e : ℕ) → SameSlot m t u → Seen m t e → word_cycle m.places e < cycle m.places u
  seen_earlier t e q p = ⊎_elim
      (λ s. let same = s ∙ same_word m t u q in omega (arith, ap (word_cycle m.places) same, earlier (sym (ap (index m.places) same) ∙ p.0)))
      (λ l. omega (arith, ap (word_cycle m.places) (same_word m t u q), not_later))
      p.2

  pub emptied_fits : ((Blank m (word m u) → ⊥) → Current m u) → (st : Stage) → (holds st ≡ Some u → ⊥) → Fits m st → Fits m' st
  emptied_fits sole st other = fits_on m m.head m.tail m.threshold _ (omega arith) (omega arith) st seen unspoilt taken
    where
      seen : (t e : ℕ) → Seen m t e → Seen m' t e
      seen t e p = ⊎_elim
          (λ q. (p.0, p.1, inr (omega (arith, emptied_cycle t q, seen_earlier t e q p))))
          (λ q. seen_there m h u w' t e q p)
          (cases_eq (slot m.places t) (slot m.places u))

      unspoilt : (x : ℕ) → holds st ≡ Some x → Unspoilt m x → Unspoilt m' x
      unspoilt x o p c b = ⊎_elim
          (λ q. other (o ∙ ap Some (emptied_current x q c)))
          (λ q. unspoilt_there m h u w' x q p c b)
          (cases_eq (slot m.places x) (slot m.places u))

      taken : (x e : ℕ) → holds st ≡ Some x → Current m x → index m.places (word m x) ≡ index m.places e → (Blank m e → ⊥) →
          Current m' x × (index m.places (word m' x) ≡ index m.places e)
      taken x e o c i b = ⊎_elim
          (λ q. absurd (other (o ∙ ap Some (one_current m x u q c (sole (λ y. b (sym i ∙ (ap (index m.places) (same_word m x u q) ∙ y))))))))
          (λ q. taken_there m h u w' x e q c i)
          (cases_eq (slot m.places x) (slot m.places u))

  pub emptied_dead : (at : ℕ → Stage) → Dead m' at u
  emptied_dead at = Dead.spoilt (emptied_cycle u refl) (emptied_word u refl)

  module _ (at at' : ℕ → Stage) (fits : (r : ℕ) → Fits m (at r)) (swaps_from : (r x e : ℕ) → swaps (at' r) ≡ Some (x, e) → swaps (at r) ≡ Some (x, e)) where
    -- no compare-and-set is for the new word
    no_swap : (r x : ℕ) → SameSlot m x u → swaps (at' r) ≡ Some (x, w') → ⊥
    no_swap r x q p = omega (arith, cycle', seen_earlier x w' q (swaps_seen m (at r) x w' (fits r) (swaps_from r x w' p)))

    pub emptied_dead_on : (t : ℕ) → Dead m at t → Dead m' at' t
    emptied_dead_on t d = ⊎_elim (λ e. here e d) (λ e. dead_there m h u w' at at' swaps_from t e d) (cases_eq (slot m.places t) (slot m.places u))
      where
        old : SameSlot m t u → word_cycle m.places (word m t) ≡ word_cycle m.places (word m u)
        old e = ap (word_cycle m.places) (same_word m t u e)

        late : SameSlot m t u → cycle m.places t < cycle m.places u → Dead m' at' t
        late e l = Dead.overtaken (omega (arith, emptied_cycle t e))

        here : SameSlot m t u → Dead m at t → Dead m' at' t
        here e (Dead.overtaken a) = late e (omega (arith, old e, not_later))
        here e (Dead.spoilt a b) = late e (omega (arith, old e, earlier (sym (ap (index m.places) (same_word m t u e)) ∙ b)))
        here e (Dead.unsafe a b c) = ⊎_elim
            (λ l. late e l)
            (λ g. ⊎_elim
            (λ q. subst (Dead m' at') (sym (same_ticket (2 * m.places) t u e q)) (emptied_dead at'))
            (λ d. Dead.unsafe (omega (arith, emptied_cycle t e))
            (ap (safe m.places) (word_here m h u w' t e) ∙ (safe' ∙ (sym (ap (safe m.places) (same_word m t u e)) ∙ b)))
            (λ r x p y. absurd (no_swap r x (y ∙ e) (p ∙ ap (λ w. Some (x, w)) (word_here m h u w' t e)))))
            (cases_eq (cycle m.places t) (cycle m.places u)))
            (cases_lt (cycle m.places t) (cycle m.places u))
