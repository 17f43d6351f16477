-- What a station's step says of what it does, and what a change of the memory leaves of it.
use Rattle.std.proofs.Common.{◌≡◌, ℕ, ◌+◌, ◌<◌, ◌≤◌, Bool, Some, None, sym, refl, ap, ◌∙◌, ⊎_elim, mod-lt, arith}
use Rattle.std.proofs.lemmas.List.{length-set, get_or-set_same, get_or-set_other}
use Rattle.std.proofs.lemmas.Bool.Decides.{nat_tests}
use Rattle.std.proofs.lemmas.Bool.{cases_lt, cases_eq}
use Rattle.ring.specs.Model.{Doing, idle, adding, seeking}
use Rattle.ring.proofs.Tickets.{same_ticket, slots_differ, join-cycle, join-index}
use Rattle.ncq_table.specs.declared.Stage.{Stage}
use Rattle.ncq_table.specs.declared.Stage.TheVariants.{Idle, N1, N2, N3, N4, N5, N6, N7, N8}
use Rattle.ncq_table.specs.Table.{cycle, slot, index, join, Memory, word, with_head, with_word}
use Rattle.ncq_table.specs.Stands.{pair, Absent, Fits, writes, Does, Shared}
use Rattle.ncq_table.proofs.Pairs.{pair_there, pair_passed, pair_cycle}
use Rattle.ncq_table.proofs.Window.{same_word, filled_low, at_end, fewer}

-- a call in progress

pub adding_writes : (m : Memory) (st : Stage) (d : Doing) (i f : ℕ) → Does m st d → d ≡ adding i f → writes st ≡ Some i
adding_writes m Idle d i f p e = cc
adding_writes m (N5 t) d i f p e = cc
adding_writes m st d i f p e = let h = p.2 in cc

-- nobody ever holds a ticket
pub none_holds : (m : Memory) (st : Stage) (d : Doing) (f t : ℕ) (b : Bool) → Does m st d → d ≡ seeking f (Some t) b → ⊥
none_holds m Idle d f t b p e = cc
none_holds m (N5 u) d f t b p e = cc
none_holds m st d f t b p e = let h = p.2 in cc

pub idle_only : (m : Memory) (st : Stage) (d : Doing) → Does m st d → d ≡ idle → st ≡ Idle
idle_only m Idle d p e = refl
idle_only m (N5 t) d p e = cc
idle_only m st d p e = let h = p.2 in cc

pub writes_fits : (m : Memory) (e : ℕ) (st : Stage) (i : ℕ) → Fits m e st → writes st ≡ Some i → (i < m.places) × Absent m e i
writes_fits m e (N1 j) i p w = let r : j ≡ i = cc in rw (← r) (p.0, p.1)
writes_fits m e (N2 j t) i p w = let r : j ≡ i = cc in rw (← r) (p.0, p.1)
writes_fits m e (N3 j t) i p w = let r : j ≡ i = cc in rw (← r) (p.0, p.1)
writes_fits m e (N4 j t v) i p w = let r : j ≡ i = cc in rw (← r) (p.0, p.1)
writes_fits m e st i p w = absurd (cc)

-- changes of the memory

-- the marks have not fallen
pub does_on : (m m' : Memory) → m.tail ≤ m'.tail → m.head ≤ m'.head → (st : Stage) (d : Doing) → Does m st d → Does m' st d
does_on m m' a b (N1 i) d p = (p.0, omega (arith, p.1), p.2)
does_on m m' a b N6 d p = (p.0, omega (arith, p.1), p.2)
does_on m m' a b st d p = p

abbrev pub tail_up : Memory → Memory
tail_up m = record { places = m.places; head = m.head; tail = m.tail + 1; words = m.words }

pub fits_tail : (m : Memory) (e : ℕ) (st : Stage) → Fits m e st → Fits (tail_up m) e st
fits_tail m e (N2 i t) p = (p.0, p.1, omega (arith, p.2))
fits_tail m e (N4 i t w) p = (p.0, p.1, omega (arith, p.2), p.3)
fits_tail m e st p = p

abbrev pub head_up : Memory → Memory
head_up m = with_head m (m.head + 1)

pub fits_head : (m : Memory) (e : ℕ) (st : Stage) → Fits m e st → Fits (head_up m) e st
fits_head m e st p = go st p
  where
    later : (i : ℕ) → Absent m e i → Absent (head_up m) e i
    later i a u l = a u (omega arith)

    go : (st : Stage) → Fits m e st → Fits (head_up m) e st
    go (N1 i) p = (p.0, later i p.1)
    go (N2 i t) p = (p.0, later i p.1, p.2)
    go (N3 i t) p = (p.0, later i p.1, p.2)
    go (N4 i t w) p = (p.0, later i p.1, p.2, p.3)
    go (N7 t) p = omega (arith, p)
    go (N8 t w) p = (omega (arith, p.0), p.1, λ q. absurd (omega (arith, p.0)))
    go st p = p

-- the word at e, the next ticket, has been written with index i
module _ (m : Memory) (e : ℕ) (h : Shared m e) (i : ℕ) (small : i < m.places) (absent : Absent m e i) (level : e ≤ m.tail) where
  abbrev pub word_in : Memory
  word_in = with_word m e (join m.places (cycle m.places e) i)

  pub word_there : word word_in e ≡ join m.places (cycle m.places e) i
  word_there = get_or-set_same m.words (slot m.places e) _ 0 (omega (arith, mod-lt e h.some_place, h.room))

  pub word_elsewhere : (t : ℕ) → (slot m.places t ≡ slot m.places e → ⊥) → word word_in t ≡ word m t
  word_elsewhere t d = get_or-set_other m.words (slot m.places e) (slot m.places t) _ 0 d

  pub cycle_there : cycle m.places (word word_in e) ≡ cycle m.places e
  cycle_there = ap (cycle m.places) word_there ∙ join-cycle m.places (cycle m.places e) i small

  pub index_there : index m.places (word word_in e) ≡ i
  index_there = ap (index m.places) word_there ∙ join-index m.places (cycle m.places e) i small

  -- the pairs that were there have other slots
  pub pairs_stay : (u : ℕ) → m.head ≤ u → u < e → word word_in u ≡ word m u
  pairs_stay u a b = word_elsewhere u (slots_differ m.places u e b (omega (arith, fewer m e h i small absent)))

  pub shared_word : Shared word_in (e + 1)
  shared_word = record {
    some_place = h.some_place;
    room = rw length-set h.room;
    tail_low = omega (arith, h.tail_low);
    tail_near = omega arith;
    past = omega (arith, h.past);
    window = window;
    head_low = omega (arith, h.head_low);
    apart = apart;
  }
    where
      window : (u : ℕ) → u < e + 1 → e + 1 ≤ u + m.places → cycle m.places (word word_in u) ≡ cycle m.places u
      window u l r = ⊎_elim
          (λ lt. ap (cycle m.places) (word_elsewhere u (slots_differ m.places u e lt (omega arith))) ∙ h.window u lt (omega arith))
          (λ ge. let q : u ≡ e = omega arith in ap (λ x. cycle m.places (word word_in x)) q ∙ (cycle_there ∙ ap (cycle m.places) (sym q)))
          (cases_lt u e)

      apart : (u v : ℕ) → m.head ≤ u → u < e + 1 → m.head ≤ v → v < e + 1 → index m.places (word word_in u) ≡ index m.places (word word_in v) → u ≡ v
      apart u v a b c d p = ⊎_elim
          (λ x. ⊎_elim
          (λ y. h.apart u v a x c y (sym (old u a x) ∙ (p ∙ old v c y)))
          (λ y. absurd (absent u a x (sym (old u a x) ∙ (p ∙ new v (omega arith)))))
          (cases_lt v e))
          (λ x. ⊎_elim
          (λ y. absurd (absent v c y (sym (old v c y) ∙ (sym p ∙ new u (omega arith)))))
          (λ y. omega arith)
          (cases_lt v e))
          (cases_lt u e)
        where
          old : (u : ℕ) → m.head ≤ u → u < e → index m.places (word word_in u) ≡ index m.places (word m u)
          old u a x = ap (index m.places) (pairs_stay u a x)

          new : (u : ℕ) → u ≡ e → index m.places (word word_in u) ≡ i
          new u q = ap (λ x. index m.places (word word_in x)) q ∙ index_there

  pub fits_word : (st : Stage) → (writes st ≡ Some i → ⊥) → Fits m e st → Fits word_in (e + 1) st
  fits_word st other p = go st other p
    where
      later : (j : ℕ) → (Some j ≡ Some i → ⊥) → Absent m e j → Absent word_in (e + 1) j
      later j o a u l k q = ⊎_elim
          (λ x. a u l x (sym (ap (index m.places) (pairs_stay u l x)) ∙ q))
          (λ x. let r : u ≡ e = omega arith in o (ap Some (sym q ∙ (ap (λ x. index m.places (word word_in x)) r ∙ index_there))))
          (cases_lt u e)

      same : (t w : ℕ) → cycle m.places w ≡ cycle m.places t → (t ≡ m.head → w ≡ word m t) → t ≡ m.head → w ≡ word word_in t
      same t w c k q = ⊎_elim
          (λ x. k q ∙ sym (pairs_stay t (omega arith) x))
          (λ x. absurd (let r : t ≡ e = omega (arith, h.head_low) in
          omega (arith, at_end m e h, c, ap (cycle m.places) (k q), ap (λ x. cycle m.places (word m x)) r, ap (cycle m.places) r)))
          (cases_lt t e)

      go : (st : Stage) → (writes st ≡ Some i → ⊥) → Fits m e st → Fits word_in (e + 1) st
      go (N1 j) o p = (p.0, later j o p.1)
      go (N2 j t) o p = (p.0, later j o p.1, p.2)
      go (N3 j t) o p = (p.0, later j o p.1, omega (arith, p.2))
      go (N4 j t w) o p = (p.0, later j o p.1, p.2, p.3)
      go (N5 t) o p = omega (arith, p)
      go (N8 t w) o p = (p.0, p.1, same t w p.1 p.2)
      go st o p = p

  pub pair_before : pair m e ≡ None
  pair_before = pair_cycle m e (λ c. omega (arith, filled_low m e h e c))

  pub pair_after : pair word_in e ≡ Some i
  pair_after = pair_there word_in e h.head_low cycle_there ∙ ap Some index_there

  pub pair_rest : (t : ℕ) → (t ≡ e → ⊥) → pair word_in t ≡ pair m t
  pair_rest t d = ⊎_elim same_slot
      (λ o. cc (word_elsewhere t o))
      (cases_eq (slot m.places t) (slot m.places e))
    where
      same_slot : slot m.places t ≡ slot m.places e → pair word_in t ≡ pair m t
      same_slot q = ⊎_elim
          (λ low. pair_passed word_in t low ∙ sym (pair_passed m t low))
          (λ k. pair_cycle word_in t (λ c. d (same_ticket m.places t e q (sym c ∙ (ap (cycle m.places) (same_word word_in t e q) ∙ cycle_there))))
          ∙ sym (pair_cycle m t (λ c. slots_differ m.places t e (filled_low m e h t c) (omega (arith, fewer m e h i small absent)) q)))
          (cases_lt t m.head)

-- Tail has moved on to the last pair

pub shared_tail : (m : Memory) (e : ℕ) → Shared m e → m.tail < e → Shared (tail_up m) e
shared_tail m e h l = record {
  some_place = h.some_place;
  room = h.room;
  tail_low = omega arith;
  tail_near = omega (arith, h.tail_near);
  past = h.past;
  window = h.window;
  head_low = h.head_low;
  apart = h.apart;
}

-- Head has passed the first pair

pub shared_head : (m : Memory) (e : ℕ) → Shared m e → m.head < e → Shared (head_up m) e
shared_head m e h l = record {
  some_place = h.some_place;
  room = h.room;
  tail_low = h.tail_low;
  tail_near = h.tail_near;
  past = h.past;
  window = h.window;
  head_low = omega arith;
  apart = λ u v a b c d. h.apart u v (omega arith) b (omega arith) d;
}

pub pair_gone : (m : Memory) → pair (head_up m) m.head ≡ None
pair_gone m = pair_passed (head_up m) m.head (omega arith)

pub pair_stays : (m : Memory) (t : ℕ) → (t ≡ m.head → ⊥) → pair (head_up m) t ≡ pair m t
pair_stays m t d = grind (arith, nat_tests)
