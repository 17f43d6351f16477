-- What a write of a word with an index leaves of pairs, registers and dead tickets.
use Rattle.std.proofs.Common.{◌≡◌, ℕ, ◌*◌, ◌<◌, ◌⊎◌, Some, None, sym, refl, ap, ◌∙◌, inl, inr, ⊎_elim, arith}
use Rattle.std.proofs.lemmas.Bool.{cases_eq}
use Rattle.std.proofs.lemmas.Option.{same_Some}
use Rattle.ring.proofs.Tickets.{same_ticket, later_cycle}
use Rattle.scq_table.specs.declared.Stage.{Stage}
use Rattle.scq_table.specs.Table.{cycle, slot, word_cycle, index, bottom, Memory, word, with_word}
use Rattle.scq_table.specs.Stands.{Current, Blank, Seen, Unspoilt, pair, swaps, holds, Fits, Shared, Dead}
use Rattle.scq_table.proofs.Pairs.{SameSlot, same_word, pair_there, pair_elsewhere, pair_blank}
use Rattle.scq_table.proofs.Stations.{fits_on}
use Rattle.scq_table.proofs.Window.{some_place}
use Rattle.scq_table.proofs.Writes.{word_here, word_there, pair_there_still, by_slot, seen_there, unspoilt_there, taken_there, dead_there, shared_on}

-- A4: w' has index i, in u's cycle, over an empty word of an earlier one
module _ (m : Memory) (h : Shared m) (u w' i : ℕ) (below : u < m.tail) (small : i < m.places)
    (cycle' : word_cycle m.places w' ≡ cycle m.places u) (index' : index m.places w' ≡ i)
    (blank : Blank m (word m u)) (earlier : word_cycle m.places (word m u) < cycle m.places u) where
  abbrev filled : Memory
  filled = with_word m u w'

  filled_cycle : (t : ℕ) → SameSlot m t u → word_cycle m.places (word filled t) ≡ cycle m.places u
  filled_cycle t e = ap (word_cycle m.places) (word_here m h u w' t e) ∙ cycle'

  filled_index : (t : ℕ) → SameSlot m t u → index m.places (word filled t) ≡ i
  filled_index t e = ap (index m.places) (word_here m h u w' t e) ∙ index'

  not_blank : (t : ℕ) → SameSlot m t u → Blank filled (word filled t) → ⊥
  not_blank t e b = omega (arith, filled_index t e, some_place m h)

  old_blank : (t : ℕ) → SameSlot m t u → Blank m (word m t)
  old_blank t e = ap (index m.places) (same_word m t u e) ∙ blank

  old_cycle : (t : ℕ) → SameSlot m t u → word_cycle m.places (word m t) < cycle m.places u
  old_cycle t e = omega (arith, ap (word_cycle m.places) (same_word m t u e), earlier)

  pub filled_before : pair m u ≡ None
  filled_before = pair_blank m u blank

  pub filled_after : pair filled u ≡ Some i
  filled_after = pair_there filled u (filled_cycle u refl) (not_blank u refl) ∙ ap Some (filled_index u refl)

  pub filled_rest : (t : ℕ) → (t ≡ u → ⊥) → pair filled t ≡ pair m t
  filled_rest t d = ⊎_elim
      (λ e. pair_elsewhere filled t (λ c. d (same_ticket (2 * m.places) t u e (sym c ∙ filled_cycle t e))) ∙ sym (pair_blank m t (old_blank t e)))
      (λ e. pair_there_still m h u w' t e)
      (cases_eq (slot m.places t) (slot m.places u))

  pub filled_from : (t j : ℕ) → pair filled t ≡ Some j → (pair m t ≡ Some j) ⊎ ((t ≡ u) × (i ≡ j))
  filled_from t j p = ⊎_elim
      (λ e. inr (e, same_Some _ _ (sym filled_after ∙ (ap (pair filled) (sym e) ∙ p))))
      (λ e. inl (sym (filled_rest t e) ∙ p))
      (cases_eq t u)

  pub filled_shared : ((t : ℕ) → pair m t ≡ Some i → ⊥) → Shared filled
  filled_shared fresh = shared_on m h u w'
      (by_slot m h u w' (λ t w. (index m.places w ≡ bottom m.places) ⊎ (index m.places w < m.places)) (λ t e. inr (omega (arith, index'))) (λ t e. h.indices t))
      (λ t j p. ⊎_elim (λ q. h.pairs_low t j q) (λ q. omega (arith, q.0)) (filled_from t j p))
      (λ t c b. ⊎_elim
      (λ e. absurd (not_blank t e b))
      (λ e. let w = word_there m h u w' t e in
      h.blanks_low t (sym (ap (word_cycle m.places) w) ∙ c) (sym (ap (index m.places) w) ∙ b))
      (cases_eq (slot m.places t) (slot m.places u)))
      (λ t v j p q. ⊎_elim
      (λ a. ⊎_elim (λ b. h.one_pair t v j a b) (λ b. absurd (fresh t (a ∙ ap Some (sym b.1)))) (filled_from v j q))
      (λ a. ⊎_elim (λ b. absurd (fresh v (b ∙ ap Some (sym a.1)))) (λ b. a.0 ∙ sym b.0) (filled_from v j q))
      (filled_from t j p))

  seen_filled : (t e : ℕ) → SameSlot m t u → Seen m t e → word_cycle m.places e < cycle m.places u
  seen_filled t e q p = ⊎_elim
      (λ s. omega (arith, ap (word_cycle m.places) s, old_cycle t q))
      (λ l. omega (arith, old_cycle t q))
      p.2

  pub filled_fits : (st : Stage) → Fits m st → Fits filled st
  filled_fits st = fits_on m m.head m.tail m.threshold _ (omega arith) (omega arith) st seen unspoilt taken
    where
      seen : (t e : ℕ) → Seen m t e → Seen filled t e
      seen t e p = ⊎_elim
          (λ q. (p.0, p.1, inr (omega (arith, filled_cycle t q, seen_filled t e q p))))
          (λ q. seen_there m h u w' t e q p)
          (cases_eq (slot m.places t) (slot m.places u))

      unspoilt : (x : ℕ) → holds st ≡ Some x → Unspoilt m x → Unspoilt filled x
      unspoilt x o p c b = ⊎_elim
          (λ q. not_blank x q b)
          (λ q. unspoilt_there m h u w' x q p c b)
          (cases_eq (slot m.places x) (slot m.places u))

      taken : (x e : ℕ) → holds st ≡ Some x → Current m x → index m.places (word m x) ≡ index m.places e → (Blank m e → ⊥) →
          Current filled x × (index m.places (word filled x) ≡ index m.places e)
      taken x e o c j b = ⊎_elim
          (λ q. absurd (b (sym j ∙ old_blank x q)))
          (λ q. taken_there m h u w' x e q c j)
          (cases_eq (slot m.places x) (slot m.places u))

  -- the station itself was to write over the word that was there
  pub filled_dead_on : (at at' : ℕ → Stage) (s : ℕ) → swaps (at s) ≡ Some (u, word m u) →
      ((r x e : ℕ) → swaps (at' r) ≡ Some (x, e) → swaps (at r) ≡ Some (x, e)) → (t : ℕ) → Dead m at t → Dead filled at' t
  filled_dead_on at at' s own from t d = ⊎_elim (λ e. late e (here e d)) (λ e. dead_there m h u w' at at' from t e d) (cases_eq (slot m.places t) (slot m.places u))
    where
      late : SameSlot m t u → cycle m.places t < cycle m.places u → Dead filled at' t
      late e l = Dead.overtaken (omega (arith, filled_cycle t e))

      here : SameSlot m t u → Dead m at t → cycle m.places t < cycle m.places u
      here e (Dead.overtaken a) = omega (arith, old_cycle t e)
      here e (Dead.spoilt a b) = omega (arith, old_cycle t e)
      here e (Dead.unsafe a b c) = later_cycle (2 * m.places) t u e
          (c s u (own ∙ ap (λ w. Some (u, w)) (same_word m u t (sym e))) (sym e))
