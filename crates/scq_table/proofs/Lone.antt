-- Each turn brings a lone call nearer to its end; each lemma is named by the step that was made and the
-- next one.
use Rattle.std.proofs.Common.{◌≡◌, ℕ, suc, ◌+◌, ◌-◌, ◌*◌, ◌<◌, ◌≤◌, max, Bool, true, false, eqb, ◌⊎◌, ℤ, pos, negsuc, ◌-ℤ◌, ◌≤ℤ◌, Some, sym, refl, ap, ◌∙◌, subst, inl, inr, ⊎_elim, mod-eq_of_lt, arith}
use lib.Signed.{le_z}
use Rattle.std.proofs.lemmas.Int.{ints}
use Rattle.std.proofs.lemmas.Bool.{cases_lt, cases_eq, both_ways, eqb-true, eq-eqb}
use Rattle.std.proofs.lemmas.Option.{same_Some}
use Rattle.ring.proofs.Pigeonhole.{pigeonhole}
use Rattle.ring.specs.Scans.{any_below}
use Rattle.ring.proofs.Scans.{any_found, any_from}
use Rattle.ring.proofs.Tickets.{in_window}
use Rattle.scq_table.specs.declared.Stage.{Stage}
use Rattle.scq_table.specs.declared.Stage.TheVariants.{Idle, A1, A2, A3, A4, A5, A6, T1, T2, T3, T4, T5, T6, T7, T8, T9, T10, T11}
use Rattle.scq_table.specs.Table.{slot, index, bottom, Memory, word, with_tail, with_head, with_threshold}
use Rattle.scq_table.specs.Stands.{Blank, above_zero, Rounds, InRounds, Left, behind, Sound}
use Rattle.scq_table.proofs.Pairs.{same_word, home}
use Rattle.scq_table.proofs.Window.{some_place, home_pair}

abbrev pub Sooner : Memory → Stage → Memory → Stage → Type 0
Sooner m st m' st' = (b : ℕ) → Left m st b → (b' : ℕ) × (b' < b) × Left m' st' b'

-- an add's rounds

-- there is at least one
rounds_more : (m : Memory) (more b : ℕ) → InRounds m more b → more + 3 ≤ b
rounds_more m more b (r, (g, _, c, _, e), l) = omega arith

rounds_less : (m : Memory) (more less b : ℕ) → less < more → InRounds m more b → InRounds m less (b - 1)
rounds_less m more less b a (r, p, l) = (r, p, omega arith)

pub a1_a2 : (m : Memory) (i : ℕ) → Sooner m (A1 i) (with_tail m (m.tail + 1)) (A2 i m.tail)
a1_a2 m i b (r, (g, h, a, w, e), l) = (
  b - 1,
  omega arith,
  ⊎_elim
      (λ q. inl (omega arith, subst (λ x. Blank m (word m x)) (sym q) w, omega arith))
      (λ d. inr (r - 1, (g, h, omega arith, w, omega arith), omega arith))
      (cases_eq m.tail g),
)

module _ (m : Memory) (i t : ℕ) where
  pub a2_a3 : Sooner m (A2 i t) m (A3 i t (word m t))
  a2_a3 b (inl (h, w, l)) = (b - 1, omega arith, inl (h, refl, omega arith))
  a2_a3 b (inr p) = (
    b - 1,
    omega (arith, rounds_more m 5 b p),
    ⊎_elim
        (λ q. inr (inl (q, rounds_less m 5 4 b (omega arith) p)))
        (λ h. inl (h, refl, omega (arith, rounds_more m 5 b p)))
        (cases_lt t m.head),
  )

  pub a2_a4 : Sooner m (A2 i t) m (A4 i t (word m t))
  a2_a4 b (inl (h, w, l)) = (b - 1, omega arith, inl (refl, omega arith))
  a2_a4 b (inr p) = (b - 1, omega (arith, rounds_more m 5 b p), inl (refl, omega (arith, rounds_more m 5 b p)))

  pub a2_a1 : (m.head ≤ t → Blank m (word m t) → ⊥) → Sooner m (A2 i t) m (A1 i)
  a2_a1 d b (inl (h, w, l)) = absurd (d h w)
  a2_a1 d b (inr p) = (b - 1, omega (arith, rounds_more m 5 b p), rounds_less m 5 3 b (omega arith) p)

  module _ (e : ℕ) where
    pub a3_a4 : m.head ≤ t → Sooner m (A3 i t e) m (A4 i t e)
    a3_a4 h b (inl (_, q, l)) = (b - 1, omega arith, inl (q, omega arith))
    a3_a4 h b (inr (inl (c, p))) = absurd (omega arith)
    a3_a4 h b (inr (inr p)) = (b - 1, omega (arith, rounds_more m 7 b p), inr (rounds_less m 7 6 b (omega arith) p))

    pub a3_a1 : t < m.head → Sooner m (A3 i t e) m (A1 i)
    a3_a1 c b (inl (h, q, l)) = absurd (omega arith)
    a3_a1 c b (inr (inl (_, p))) = (b - 1, omega (arith, rounds_more m 4 b p), rounds_less m 4 3 b (omega arith) p)
    a3_a1 c b (inr (inr p)) = (b - 1, omega (arith, rounds_more m 7 b p), rounds_less m 7 3 b (omega arith) p)

    pub a4_a2 : (e ≡ word m t → ⊥) → Sooner m (A4 i t e) m (A2 i t)
    a4_a2 d b (inl (q, l)) = absurd (d q)
    a4_a2 d b (inr p) = (b - 1, omega (arith, rounds_more m 6 b p), inr (rounds_less m 6 5 b (omega arith) p))

    pub a4_a5 : (m' : Memory) → Sooner m (A4 i t e) m' (A5 t)
    a4_a5 m' b (inl (q, l)) = (b - 1, omega arith, omega arith)
    a4_a5 m' b (inr p) = (b - 1, omega (arith, rounds_more m 6 b p), omega (arith, rounds_more m 6 b p))

module _ (m m' : Memory) (t : ℕ) where
  pub a5_a6 : Sooner m (A5 t) m' (A6 t)
  a5_a6 b l = (b - 1, omega arith, omega arith)

  pub a5_ends : Sooner m (A5 t) m' Idle
  a5_ends b l = (0, omega arith, tt)

  pub a6_ends : Sooner m (A6 t) m' Idle
  a6_ends b l = (0, omega arith, tt)

-- takes

pub t1_t2 : (m : Memory) → Sooner m T1 m T2
t1_t2 m b l = (b - 1, omega arith, omega arith)

pub t2_t3 : (m : Memory) → Sooner m T2 (with_head m (m.head + 1)) (T3 m.head)
t2_t3 m b l = (b - 1, omega arith, omega arith)

module _ (m : Memory) (h : ℕ) where
  pub t3_t4 : (e : ℕ) → Sooner m (T3 h) m (T4 h e)
  t3_t4 e b l = (b - 1, omega arith, omega arith)

  pub t3_t5 : Sooner m (T3 h) m (T5 h (word m h))
  t3_t5 b l = (b - 1, omega arith, inl (refl, omega arith))

  pub t3_t6 : Sooner m (T3 h) m (T6 h)
  t3_t6 b l = (b - 1, omega arith, omega arith)

  pub t5_t6 : (m' : Memory) (e : ℕ) → m'.threshold ≡ m.threshold → Sooner m (T5 h e) m' (T6 h)
  t5_t6 m' e same b (inl (_, l)) = (b - 1, omega arith, omega (arith, ap above_zero same))
  t5_t6 m' e same b (inr l) = (b - 1, omega arith, omega (arith, ap above_zero same))

  pub t5_t3 : (e : ℕ) → (e ≡ word m h → ⊥) → Sooner m (T5 h e) m (T3 h)
  t5_t3 e d b (inl (q, l)) = absurd (d q)
  t5_t3 e d b (inr l) = (b - 1, omega arith, omega arith)

  pub t6_t7 : (v : ℕ) → Sooner m (T6 h) m (T7 h m.tail v)
  t6_t7 v b l = (b - 1, omega arith, inl (refl, omega arith))

  pub t6_t11 : Sooner m (T6 h) m (T11 h)
  t6_t11 b l = (b - 1, omega arith, omega arith)

  pub t7_t8 : (u v : ℕ) → (u ≡ m.tail → ⊥) → Sooner m (T7 h u v) m (T8 h)
  t7_t8 u v d b (inl (q, l)) = absurd (d q)
  t7_t8 u v d b (inr l) = (b - 1, omega arith, omega arith)

  pub t7_t10 : (m' : Memory) (u v : ℕ) → Sooner m (T7 h u v) m' (T10 h)
  t7_t10 m' u v b (inl (q, l)) = (b - 1, omega arith, omega arith)
  t7_t10 m' u v b (inr l) = (b - 1, omega arith, omega arith)

  pub t8_t9 : (v : ℕ) → Sooner m (T8 h) m (T9 h v)
  t8_t9 v b l = (b - 1, omega arith, omega arith)

  pub t9_t10 : (v : ℕ) → Sooner m (T9 h v) m (T10 h)
  t9_t10 v b l = (b - 1, omega arith, omega arith)

  pub t9_t7 : (v w : ℕ) → Sooner m (T9 h v) m (T7 h m.tail w)
  t9_t7 v w b l = (b - 1, omega arith, inl (refl, omega arith))

-- one off a number above 0
above_less : (z : ℤ) → le_z z (pos 0) ≡ false → above_zero (z -ℤ pos 1) + 1 ≡ above_zero z
above_less (pos (suc a)) e =
    let less : pos (suc a) -ℤ pos 1 ≡ pos a = omega (arith, ints) in
    omega (arith, ap above_zero less)
above_less z e = cc

above_low : (z : ℤ) (c : ℕ) → z ≤ℤ pos c → above_zero z ≤ c
above_low (pos a) c l = omega (arith, ints)
above_low (negsuc a) c l = omega arith

pub t11_t2 : (m : Memory) (h : ℕ) → le_z m.threshold (pos 0) ≡ false → Sooner m (T11 h) (with_threshold m (m.threshold -ℤ pos 1)) T2
t11_t2 m h e b l = (b - 1, omega arith, omega (arith, above_less m.threshold e))

module _ (m m' : Memory) where
  pub t1_ends : Sooner m T1 m' Idle
  t1_ends b l = (0, omega arith, tt)

  pub t4_ends : (h e : ℕ) → Sooner m (T4 h e) m' Idle
  t4_ends h e b l = (0, omega arith, tt)

  pub t10_ends : (h : ℕ) → Sooner m (T10 h) m' Idle
  t10_ends h b l = (0, omega arith, tt)

  pub t11_ends : (h : ℕ) → Sooner m (T11 h) m' Idle
  t11_ends h b l = (0, omega arith, tt)

-- the most that is left

abbrev Total : (ℕ → ℕ → Type 0) → ℕ → Type 0
Total P c = (f : ℕ → ℕ) × ((x : ℕ) → x < c → P x (f x))

-- a function of all numbers, from one of those below c
total : (P : ℕ → ℕ → Type 0) (c : ℕ) → ((x : ℕ) → x < c → (s : ℕ) × P x s) → Total P c
total P c each = ((λ x. pick x (cases_lt x c)), (λ x l. picked x l (cases_lt x c)))
  where
    pick : (x : ℕ) → (x < c) ⊎ (c ≤ x) → ℕ
    pick x (inl l) = (each x l).0
    pick x (inr g) = 0

    picked : (x : ℕ) → x < c → (o : (x < c) ⊎ (c ≤ x)) → P x (pick x o)
    picked x l (inl a) = (each x a).1
    picked x l (inr g) = absurd (omega arith)

module _ (m : Memory) (k : ℕ) (at : ℕ → Stage) (charge : ℕ → ℕ) (sound : Sound m k at charge) where
  one_place : 1 ≤ m.places
  one_place = some_place m sound.shared

  -- Head is no more than k tickets past Tail
  head_near : m.head ≤ m.tail + k
  head_near =
      let f = total (λ x s. behind (at s) ≡ Some (m.tail + x)) (m.head - m.tail) (λ x l. sound.caught_up (m.tail + x) (omega arith) (omega arith)) in
      omega (
        arith,
        pigeonhole k (m.head - m.tail) f.0
            (λ x l. ⊎_elim (λ a. a) (λ g. absurd (cc (f.1 x l, sound.beyond (f.0 x) g))) (cases_lt (f.0 x) k))
            (λ x y l o e. let same = same_Some _ _ (sym (f.1 x l) ∙ (ap (λ s. behind (at s)) e ∙ f.1 y o)) in omega arith),
      )

  -- n indices do not fill 2n slots
  blank_slot : (x : ℕ) × Blank m (word m x)
  blank_slot = go (any_below (2 * m.places) blank) refl
    where
      blank : ℕ → Bool
      blank x = eqb (index m.places (word m x)) (bottom m.places)

      go : (b : Bool) → any_below (2 * m.places) blank ≡ b → (x : ℕ) × Blank m (word m x)
      go true e = let found = any_found (2 * m.places) blank e in (found.0, eqb-true _ _ found.2)
      go false e = absurd (omega (
        arith,
        one_place,
        pigeonhole m.places (2 * m.places) (λ x. index m.places (word m x))
            (λ x l. ⊎_elim (λ q. absurd (full x l q)) (λ a. a) (sound.shared.indices x))
            (λ x y l o q.
            let same = sound.shared.one_pair _ _ _ (home_pair m one_place x (full x l)) (home_pair m one_place y (full y o) ∙ ap Some (sym q)) in
            let slots = sym (home m x one_place).1 ∙ (ap (slot m.places) same ∙ (home m y one_place).1) in
            sym (mod-eq_of_lt l) ∙ (slots ∙ mod-eq_of_lt o)),
      ))
        where
          full : (x : ℕ) → x < 2 * m.places → Blank m (word m x) → ⊥
          full x l q = both_ways (any_below (2 * m.places) blank) e (any_from (2 * m.places) blank x l (eq-eqb _ _ q))

  rounds : Rounds m (3 * m.places)
  rounds =
      let g = in_window (2 * m.places) (max m.head m.tail) blank_slot.0 (omega (arith, one_place)) in
      let same = same_word m g.0 blank_slot.0 g.3 in
      (g.0, omega (arith, g.1), omega (arith, g.1), ap (index m.places) same ∙ blank_slot.1, omega (arith, g.2, head_near, sound.crew))

  in_rounds : (more : ℕ) → more < 8 → InRounds m more (15 * m.places + 2)
  in_rounds more l = (3 * m.places, rounds, omega (arith, one_place))

  tries : above_zero m.threshold + 1 ≤ 3 * m.places
  tries = omega (arith, one_place, above_low m.threshold (3 * m.places - 1) sound.shared.threshold_high)

  pub left_most : (st : Stage) → Left m st (15 * m.places + 2)
  left_most Idle = tt
  left_most (A1 i) = in_rounds 3 (omega arith)
  left_most (A2 i t) = inr (in_rounds 5 (omega arith))
  left_most (A3 i t e) = inr (inr (in_rounds 7 (omega arith)))
  left_most (A4 i t e) = inr (in_rounds 6 (omega arith))
  left_most (A5 t) = omega arith
  left_most (A6 t) = omega arith
  left_most T1 = omega (arith, tries)
  left_most T2 = omega (arith, tries)
  left_most (T3 h) = omega (arith, tries)
  left_most (T4 h e) = omega arith
  left_most (T5 h e) = inr (omega (arith, tries))
  left_most (T6 h) = omega (arith, tries)
  left_most (T7 h u v) = inr (omega (arith, one_place))
  left_most (T8 h) = omega (arith, one_place)
  left_most (T9 h v) = omega (arith, one_place)
  left_most (T10 h) = omega arith
  left_most (T11 h) = omega (arith, tries)
