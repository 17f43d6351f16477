-- What follows from the shared memory's facts alone.
use Rattle.std.proofs.Common.{◌≡◌, ℕ, suc, ◌+◌, ◌-◌, ◌<◌, ◌≤◌, get_or, sym, ap, ◌∙◌, subst, ⊎_elim, mod-lt, arith}
use native.Mathlib.Nat.{add-mod_right, add-div_right}
use Rattle.std.proofs.lemmas.Bool.{cases_lt}
use Rattle.ring.proofs.Tickets.{same_ticket, later_cycle, slots_differ, in_window}
use Rattle.ring.proofs.Pigeonhole.{pigeonhole}
use Rattle.ring.specs.Cells.{put}
use Rattle.ring.proofs.Entries.{put_same, put_other}
use Rattle.ncq_table.specs.Table.{cycle, slot, index, Memory, word}
use Rattle.ncq_table.specs.Stands.{Shared, Absent}

pub same_word : (m : Memory) (t u : ℕ) → slot m.places t ≡ slot m.places u → word m t ≡ word m u
same_word m t u e = ap (λ j. get_or m.words j 0) e

module _ (m : Memory) (e : ℕ) (h : Shared m e) where
  abbrev n : ℕ
  n = m.places

  -- every slot has the cycle of its ticket among the last n below e
  pub seat : (t : ℕ) → (u : ℕ) × (u < e) × (e ≤ u + n) × (slot n u ≡ slot n t) × (cycle n (word m t) ≡ cycle n u)
  seat t =
      let w = in_window n (e - n) t h.some_place in
      let low : w.0 < e = omega (arith, w.2, h.past) in
      let near : e ≤ w.0 + n = omega (arith, w.1) in
      (w.0, low, near, w.3, ap (cycle n) (same_word m t w.0 (sym w.3)) ∙ h.window w.0 low near)

  pub filled_low : (t : ℕ) → cycle n (word m t) ≡ cycle n t → t < e
  filled_low t c =
      let s = seat t in
      omega (arith, s.1, same_ticket n t s.0 (sym s.3) (sym c ∙ s.4))

  -- a slot of the cycle before is the next to be filled
  pub before_end : (t : ℕ) → t ≤ e → cycle n (word m t) + 1 ≡ cycle n t → t ≡ e
  before_end t le c = ⊎_elim (λ lt. absurd (⊎_elim
      (λ l. slots_differ n (seat t).0 t l (omega (arith, (seat t).2)) (seat t).3)
      (λ g. ⊎_elim
      (λ l. omega (arith, later_cycle n t (seat t).0 (sym (seat t).3) l, (seat t).4))
      (λ l. let q : t ≡ (seat t).0 = omega arith in omega (arith, (seat t).4, ap (cycle n) q))
      (cases_lt t (seat t).0))
      (cases_lt (seat t).0 t)))
      (λ ge. omega arith) (cases_lt t e)

  pub at_end : cycle n (word m e) + 1 ≡ cycle n e
  at_end = ⊎_elim
      (λ l. absurd (slots_differ n (seat e).0 e (seat e).1 l (seat e).3))
      (λ g. let q : e ≡ (seat e).0 + n = omega (arith, (seat e).2) in
      omega (arith, (seat e).4, ap (cycle n) q, add-div_right (seat e).0 h.some_place))
      (cases_lt e ((seat e).0 + n))

  -- the slots of the last n tickets and of the next are of their ticket's cycle or of the one before
  pub near_slot : (t : ℕ) → t ≤ e → e ≤ t + n → (cycle n (word m t) ≡ cycle n t → ⊥) → (cycle n (word m t) + 1 ≡ cycle n t → ⊥) → ⊥
  near_slot t le near x y = ⊎_elim
      (λ l. x (h.window t l near))
      (λ g. let last : e ≡ t = omega arith in y (subst (λ u. cycle n (word m u) + 1 ≡ cycle n u) last at_end))
      (cases_lt t e)

  -- no more pairs than places
  pub few : e ≤ m.head + n
  few = ⊎_elim
      (λ l. absurd (omega (
        arith,
        h.some_place,
        h.apart m.head (m.head + n) (omega arith) (omega arith) (omega arith) l
            (ap (index n) (same_word m m.head (m.head + n) (sym (add-mod_right m.head n)))),
      )))
      (λ g. g) (cases_lt (m.head + n) e)

  pub pair_cycled : (t : ℕ) → m.head ≤ t → t < e → cycle n (word m t) ≡ cycle n t
  pair_cycled t a b = h.window t b (omega (arith, few))

  -- and fewer while an index is outside the pairs
  pub fewer : (i : ℕ) → i < n → Absent m e i → e < m.head + n
  fewer i l a = ⊎_elim (λ lt. lt) (λ ge. absurd (full ge)) (cases_lt e (m.head + n))
    where
      f : ℕ → ℕ
      f x = index n (word m (m.head + x))

      g : ℕ → ℕ
      g = put f n i

      old : (x : ℕ) → x < n → g x ≡ f x
      old x k = put_other f n i x (λ q. omega arith)

      below : (x : ℕ) → x < suc n → g x < n
      below x k = ⊎_elim (λ lt. omega (arith, old x lt, mod-lt (word m (m.head + x)) h.some_place)) (λ ge. let q : x ≡ n = omega arith in omega (arith, ap g q, put_same f n i)) (cases_lt x n)

      full : m.head + n ≤ e → ⊥
      full ge = omega (arith, pigeonhole n (suc n) g below inj)
        where
          inj : (x y : ℕ) → x < suc n → y < suc n → g x ≡ g y → x ≡ y
          inj x y k j q = ⊎_elim
              (λ a1. ⊎_elim
              (λ a2. omega (arith, h.apart (m.head + x) (m.head + y) (omega arith) (omega arith) (omega arith) (omega arith) (sym (old x a1) ∙ (q ∙ old y a2))))
              (λ a2. absurd (let p : y ≡ n = omega arith in a (m.head + x) (omega arith) (omega arith) (sym (old x a1) ∙ (q ∙ (ap g p ∙ put_same f n i)))))
              (cases_lt y n))
              (λ a1. ⊎_elim
              (λ a2. absurd (let p : x ≡ n = omega arith in a (m.head + y) (omega arith) (omega arith) (sym (old y a2) ∙ (sym q ∙ (ap g p ∙ put_same f n i)))))
              (λ a2. omega arith)
              (cases_lt y n))
              (cases_lt x n)
