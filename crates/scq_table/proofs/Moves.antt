-- From what one station's turn keeps to what holds after it.
use Rattle.std.proofs.Common.{◌≡◌, ℕ, ◌+◌, ◌<◌, ◌≤◌, ◌⊎◌, pos, ◌+ℤ◌, ◌≤ℤ◌, Some, None, ap, ◌∙◌, inl, inr, ⊎_elim, arith}
use Rattle.std.proofs.lemmas.Int.{ints}
use Rattle.std.proofs.lemmas.Bool.{cases_lt}
use Rattle.ring.proofs.Scans.{one_if, count_moved}
use Rattle.ring.proofs.Steps.{by_station, had, has_still, has_now, one_still}
use Rattle.scq_table.specs.declared.Stage.{Stage}
use Rattle.scq_table.specs.Table.{Memory}
use Rattle.scq_table.specs.Stands.{pair, writes, closes, holds, live, behind, is_some, Fits, Shared, Dead, Charged, holders, Sound}
use Rattle.scq_table.proofs.Stations.{live_behind, holds_low}

module _ (m : Memory) (k : ℕ) (at : ℕ → Stage) (charge : ℕ → ℕ) (sound : Sound m k at charge)
    (s : ℕ) (here : s < k) (m' : Memory) (at' : ℕ → Stage) (st : Stage) (charge' : ℕ → ℕ)
    (mine : at' s ≡ st) (others : (r : ℕ) → (r ≡ s → ⊥) → at' r ≡ at r) where
  -- what a row of the table has to show
  pub record Keeps : Type 0 where
    pub places_stay : m'.places ≡ m.places
    pub tail_on : m.tail ≤ m'.tail
    pub head_on : m.head ≤ m'.head
    pub shared : Shared m'
    pub fits_mine : Fits m' st
    pub fits_others : (r : ℕ) → (r ≡ s → ⊥) → Fits m' (at r)
    -- no index but one that was outside is new
    pub writes_from : (i : ℕ) → writes st ≡ Some i → (writes (at s) ≡ Some i) ⊎ (((r : ℕ) → writes (at r) ≡ Some i → ⊥) × ((t : ℕ) → pair m' t ≡ Some i → ⊥))
    -- no pair but the station's own is new
    pub pair_from : (t i : ℕ) → pair m' t ≡ Some i → (pair m t ≡ Some i) ⊎ ((closes st ≡ Some t) × (writes (at s) ≡ Some i) × (writes st ≡ None))
    pub holds_from : (t : ℕ) → holds st ≡ Some t → (holds (at s) ≡ Some t) ⊎ (t ≡ m.head)
    pub dead_on : (t : ℕ) → t < m.head → Dead m at t → Dead m' at' t
    pub live_on : (t : ℕ) → live (at s) ≡ Some t → (live st ≡ Some t) ⊎ Dead m' at' t
    pub live_new : (t : ℕ) → m.head ≤ t → t < m'.head → live st ≡ Some t
    pub behind_on : (t : ℕ) → m'.tail ≤ t → behind (at s) ≡ Some t → behind st ≡ Some t
    pub charged : Charged m' at' charge'
    pub closes_on : (t i : ℕ) → pair m' t ≡ Some i → m'.head ≤ t → closes (at s) ≡ Some t →
        (closes st ≡ Some t) ⊎ (pos (t + holders k at') ≤ℤ (pos m'.head +ℤ m'.threshold))
    -- Threshold falls only with the number of stations that hold a ticket
    pub credit_on : (pos (m.head + one_if (is_some (holds st))) +ℤ m.threshold) ≤ℤ (pos (m'.head + one_if (is_some (holds (at s)))) +ℤ m'.threshold)

  holders_moved : holders k at' + one_if (is_some (holds (at s))) ≡ holders k at + one_if (is_some (holds st))
  holders_moved = count_moved k (λ r. is_some (holds (at' r))) (λ r. is_some (holds (at r))) s here (λ r e. ap (λ x. is_some (holds x)) (others r e))
      ∙ ap (λ x. holders k at + one_if (is_some (holds x))) mine

  module _ (p : Keeps) where
    not_both : (t r i : ℕ) → pair m' t ≡ Some i → writes (at' r) ≡ Some i → ⊥
    not_both t r i a w = ⊎_elim
        (λ b. ⊎_elim
        (λ c. ⊎_elim (λ d. sound.not_both t s i b d) (λ d. d.1 t a) (p.writes_from i c.1))
        (λ c. sound.not_both t r i b c.1)
        (had at at' s st mine others writes r i w))
        (λ b. ⊎_elim
        (λ c. cc)
        (λ c. c.0 (sound.one_writer r s i c.1 b.1))
        (had at at' s st mine others writes r i w))
        (p.pair_from t i a)

    held_or_dead : (t : ℕ) → t < m'.head → ((r : ℕ) × (live (at' r) ≡ Some t)) ⊎ Dead m' at' t
    held_or_dead t l = ⊎_elim
        (λ old. ⊎_elim
        (λ h. ⊎_elim
        (λ was. ⊎_elim (λ is. inl (has_now at at' s st mine others live t is)) inr (p.live_on t was))
        inl
        (has_still at at' s st mine others live t h))
        (λ d. inr (p.dead_on t old d))
        (sound.held_or_dead t old))
        (λ new. inl (has_now at at' s st mine others live t (p.live_new t new l)))
        (cases_lt t m.head)

    caught_up : (t : ℕ) → m'.tail ≤ t → t < m'.head → (r : ℕ) × (behind (at' r) ≡ Some t)
    caught_up t a l = ⊎_elim
        (λ old. ⊎_elim
        (λ was. has_now at at' s st mine others behind t (p.behind_on t a was))
        (λ is. is)
        (has_still at at' s st mine others behind t (sound.caught_up t (omega (arith, p.tail_on)) old)))
        (λ new. has_now at at' s st mine others behind t (live_behind st t (p.live_new t new l)))
        (cases_lt t m.head)

    credit : (t i : ℕ) → pair m' t ≡ Some i → m'.head ≤ t →
        ((r : ℕ) × (closes (at' r) ≡ Some t)) ⊎ (pos (t + holders k at') ≤ℤ (pos m'.head +ℤ m'.threshold))
    credit t i a l = ⊎_elim
        (λ old. ⊎_elim
        (λ c. ⊎_elim
        (λ was. ⊎_elim (λ is. inl (has_now at at' s st mine others closes t is)) inr (p.closes_on t i a l was))
        inl
        (has_still at at' s st mine others closes t c))
        (λ c. inr (omega (arith, ints, c, holders_moved, p.credit_on)))
        (sound.credit t i old (omega (arith, p.head_on))))
        (λ new. inl (has_now at at' s st mine others closes t new.0))
        (p.pair_from t i a)

    pub sound_after : Sound m' k at' charge'
    sound_after = record {
      shared = p.shared;
      crew = omega (arith, p.places_stay, sound.crew);
      beyond = λ r l. others r (λ e. omega arith) ∙ sound.beyond r l;
      fits = by_station at at' s st mine others (λ r x. Fits m' x) p.fits_mine p.fits_others;
      one_writer = one_still at at' s st mine others writes sound.one_writer (λ i w. ⊎_elim inl (λ d. inr d.0) (p.writes_from i w));
      not_both = not_both;
      one_holder = one_still at at' s st mine others holds sound.one_holder
          (λ t h. ⊎_elim inl (λ e. inr (λ r g. omega (arith, holds_low m (at r) t (sound.fits r) g))) (p.holds_from t h));
      held_or_dead = held_or_dead;
      caught_up = caught_up;
      charged = p.charged;
      credit = credit;
    }
