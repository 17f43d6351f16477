-- A turn that leaves the words: it may move Head, Tail or Threshold.
use Rattle.std.proofs.Common.{◌≡◌, ℕ, ◌+◌, ◌<◌, ◌≤◌, ◌⊎◌, ℤ, pos, ◌+ℤ◌, ◌≤ℤ◌, Some, sym, refl, ap, ◌∙◌, subst, inl, inr, ⊎_elim, arith}
use Rattle.ring.proofs.Scans.{one_if}
use Rattle.ring.proofs.Steps.{had}
use Rattle.scq_table.specs.declared.Stage.{Stage}
use Rattle.scq_table.specs.Table.{safe, top, Memory, word}
use Rattle.scq_table.specs.Stands.{pair, writes, swaps, closes, holds, live, behind, is_some, Fits, Shared, Dead, Charged, holders, Sound}
use Rattle.scq_table.proofs.Stations.{changed, fits_on}
use Rattle.scq_table.proofs.Moves.{Keeps}

-- station s goes from step st₀ to step st
module _ (m : Memory) (k : ℕ) (at : ℕ → Stage) (charge : ℕ → ℕ) (sound : Sound m k at charge)
    (s : ℕ) (here : s < k) (h' t' : ℕ) (z' : ℤ) (at' : ℕ → Stage) (st₀ st : Stage) (was : at s ≡ st₀) (charge' : ℕ → ℕ)
    (mine : at' s ≡ st) (others : (r : ℕ) → (r ≡ s → ⊥) → at' r ≡ at r) where
  abbrev m' : Memory
  m' = changed m h' t' z' m.words

  pub shared_marks : m.head ≤ h' → m.tail ≤ t' → z' ≤ℤ top m.places → Shared m'
  shared_marks a b c = record {
    sized = sound.shared.sized;
    room = sound.shared.room;
    indices = sound.shared.indices;
    pairs_low = λ t i p. omega (arith, sound.shared.pairs_low t i p);
    blanks_low = λ t x y. omega (arith, sound.shared.blanks_low t x y);
    one_pair = sound.shared.one_pair;
    threshold_high = c;
  }

  -- a compare-and-set that the station comes to try is safe, or for a ticket that Head has not passed
  abbrev pub SwapsLate : Type 0
  SwapsLate = (t u : ℕ) → t < m.head → safe m.places (word m t) ≡ 0 → swaps st ≡ Some (u, word m t) → t < u

  dead_marks : SwapsLate → (t : ℕ) → t < m.head → Dead m at t → Dead m' at' t
  dead_marks late t l (Dead.overtaken a) = Dead.overtaken a
  dead_marks late t l (Dead.spoilt a b) = Dead.spoilt a b
  dead_marks late t l (Dead.unsafe a b c) = Dead.unsafe a b
      (λ r u p e. ⊎_elim (λ x. late t u l b x.1) (λ x. c r u x.1 e) (had at at' s st mine others swaps r (u, word m t) p))

  -- what is left to show of such a turn
  pub record Marks : Type 0 where
    pub head_on : m.head ≤ h'
    pub tail_on : m.tail ≤ t'
    pub threshold_high : z' ≤ℤ top m.places
    pub fits_mine : Fits m' st
    pub writes_from : (i : ℕ) → writes st ≡ Some i → (writes st₀ ≡ Some i) ⊎ (((r : ℕ) → writes (at r) ≡ Some i → ⊥) × ((t : ℕ) → pair m t ≡ Some i → ⊥))
    pub holds_from : (t : ℕ) → holds st ≡ Some t → (holds st₀ ≡ Some t) ⊎ (t ≡ m.head)
    pub swaps_late : SwapsLate
    pub live_on : (t : ℕ) → live st₀ ≡ Some t → (live st ≡ Some t) ⊎ Dead m' at' t
    pub live_new : (t : ℕ) → m.head ≤ t → t < h' → live st ≡ Some t
    pub behind_on : (t : ℕ) → t' ≤ t → behind st₀ ≡ Some t → behind st ≡ Some t
    pub charged : Charged m' at' charge'
    pub closes_on : (t i : ℕ) → pair m t ≡ Some i → h' ≤ t → closes st₀ ≡ Some t → (closes st ≡ Some t) ⊎ (pos (t + holders k at') ≤ℤ (pos h' +ℤ z'))
    pub credit_on : (pos (m.head + one_if (is_some (holds st))) +ℤ m.threshold) ≤ℤ (pos (h' + one_if (is_some (holds st₀))) +ℤ z')

  pub marks_keep : Marks → Keeps m k at charge sound s here m' at' st charge' mine others
  marks_keep p = record {
    places_stay = refl;
    tail_on = p.tail_on;
    head_on = p.head_on;
    shared = shared_marks p.head_on p.tail_on p.threshold_high;
    fits_mine = p.fits_mine;
    fits_others = λ r e. fits_on m h' t' z' m.words p.tail_on p.head_on (at r) (λ t x y. y) (λ x o y. y) (λ x y o c i b. (c, i)) (sound.fits r);
    writes_from = λ i w. ⊎_elim (λ x. inl (ap writes was ∙ x)) inr (p.writes_from i w);
    pair_from = λ t i q. inl q;
    holds_from = λ t x. ⊎_elim (λ y. inl (ap holds was ∙ y)) inr (p.holds_from t x);
    dead_on = dead_marks p.swaps_late;
    live_on = λ t x. p.live_on t (sym (ap live was) ∙ x);
    live_new = p.live_new;
    behind_on = λ t l x. p.behind_on t l (sym (ap behind was) ∙ x);
    charged = p.charged;
    closes_on = λ t i x l c. p.closes_on t i x l (sym (ap closes was) ∙ c);
    credit_on = subst (λ x. (pos (m.head + one_if (is_some (holds st))) +ℤ m.threshold) ≤ℤ (pos (h' + one_if (is_some (holds x))) +ℤ z')) (sym was) p.credit_on;
  }
