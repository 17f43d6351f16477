-- A new ring is within its bounds, and each call keeps them.
use Rattle.std.proofs.Common.{ℕ, ◌+◌, ◌*◌, ◌/◌, ◌%◌, ◌<◌, ◌≤◌, cond, eqb, ltb, List, map, get_or, set, replicate, Ok, Err, sym, subst, ⊎_elim, mul-zero, zero-add, arith}
use Rattle.std.proofs.Props.{props}
use Rattle.std.specs.List.{range_with_len}
use Rattle.std.proofs.lemmas.Bool.{cond_both, eqb-false, cases_lt, ltb-true}
use Rattle.std.proofs.lemmas.List.{get_or_past}
use Rattle.std.proofs.lemmas.List.FromFn.{get_or-map-range_with_len, length-map-range_with_len}
use native.Mathlib.Nat.{div-add-mod}
use Rattle.ring.proofs.Entries.{all_set, get_or-same}
use Rattle.ring.specs.Bounds.{Fitting, KeepsBounds}
use Rattle.ncq_table.specs.Table.{Memory, Row, steps, step, move_tail, word, cycle, full_words}
use Rattle.ncq_table.specs.declared.Stage.{Stage}
use Rattle.ncq_table.specs.declared.Stage.TheVariants.{Idle, N1, N2, N3, N4, N5, N6, N7, N8}
use Rattle.ncq_table.specs.Within.{past_index, past_ticket, StepFits, LowWords, Bounded}

pub bounded_prop : (k l : ℕ) (m : Memory) (stages : List Stage) → IsProp (Bounded k l m stages)
bounded_prop k l m stages = Prim.hlevel props

pub full_words_low : (n l : ℕ) → 1 ≤ n → LowWords n l (full_words n)
unfolding full_words
full_words_low n l h j =
    let f : ℕ → ℕ = λ k. cond (ltb k n) (n * 0 + k) 0 in
    let P : ℕ → Type 0 = λ w. w < n + l in
    ⊎_elim
    (λ lt. subst P (sym (get_or-map-range_with_len f 0 64 j j 0 lt (zero-add j)))
    (cond_both (ltb j n) (n * 0 + j) 0 P (λ e. simp (mul-zero, zero-add) (omega (arith, ltb-true j n e))) (λ e. omega arith)))
    (λ ge. subst P (sym (get_or_past (map f (range_with_len 0 64)) j 0 (simp length-map-range_with_len ge))) (omega arith))
    (cases_lt j 64)

-- a ring of n places, with the next take at h
new_bounded : (n k l h : ℕ) (words : List ℕ) → Fitting n k l → h ≤ n → LowWords n l words →
    Bounded k l (record { places = n; head = h; tail = n; words = words }) (replicate 64 Idle)
new_bounded n k l h words f low low_words = record {
  sized = (f.some_place, f.few_places, omega (arith, f.crew, f.few_places), f.limit_low);
  counted = (omega (arith, f.limit_high), omega (arith, f.limit_high));
  words_low = low_words;
  indices_low = λ s. simp (get_or-same 64 s Idle) (omega arith);
  tickets_low = λ s. simp (get_or-same 64 s Idle) (omega arith);
}

-- the bounds hold of all, and a station at s comes to another step
module _ (k l : ℕ) (m : Memory) (xs : List Stage) (s : ℕ) (all : Bounded k l m xs) where
  -- a row that is carried out leaves all within the bounds
  abbrev Within : Row → Type 0
  Within (Ok (a, m', st)) = Bounded k l m' (set xs s st)
  Within (Err e) = Unit {0}

  -- where the memory keeps its bounds
  moves : (h t : ℕ) (words : List ℕ) (st : Stage) → h ≤ l → t ≤ l → LowWords m.places l words → past_index st ≤ m.places → past_ticket st ≤ l →
      Bounded k l (record { places = m.places; head = h; tail = t; words = words }) (set xs s st)
  moves h t words st lh lt lw hi ht = record {
    sized = all.sized;
    counted = (lh, lt);
    words_low = lw;
    indices_low = all_set (λ v. past_index v ≤ m.places) xs s st Idle all.indices_low hi;
    tickets_low = all_set (λ v. past_ticket v ≤ l) xs s st Idle all.tickets_low ht;
  }

  stays : (st : Stage) → past_index st ≤ m.places → past_ticket st ≤ l → Bounded k l m (set xs s st)
  stays st = moves m.head m.tail m.words st all.counted.0 all.counted.1 all.words_low

  writes : (j w : ℕ) (st : Stage) → w < m.places + l → past_index st ≤ m.places → past_ticket st ≤ l →
      Bounded k l (record { places = m.places; head = m.head; tail = m.tail; words = set m.words j w }) (set xs s st)
  writes j w st low = moves m.head m.tail (set m.words j w) st all.counted.0 all.counted.1 (all_set (λ v. v < m.places + l) m.words j w 0 all.words_low low)

  tail_moved : (t : ℕ) (st : Stage) → t + 1 ≤ l → past_index st ≤ m.places → past_ticket st ≤ l → Bounded k l (move_tail m t) (set xs s st)
  tail_moved t st low hi ht = cond_both (eqb m.tail t) _ _ (λ x. Bounded k l x (set xs s st))
      (λ e. moves m.head (t + 1) m.words st all.counted.0 low all.words_low hi ht) (λ e. stays st hi ht)

  by_step : (st : Stage) → past_index st ≤ m.places → past_ticket st ≤ l → Within (step m l st)
  by_step Idle hi ht = tt
  by_step (N1 i) hi ht = cond_both (eqb m.tail l) _ _ Within (λ e. tt) (λ e. stays (N2 i m.tail) hi (omega (arith, all.counted.1, eqb-false m.tail l e)))
  by_step (N2 i t) hi ht =
      cond_both (eqb (cycle m.places (word m t)) (cycle m.places t)) _ _ Within (λ e. stays (N3 i t) hi ht)
      (λ e. cond_both (eqb (cycle m.places (word m t) + 1) (cycle m.places t)) _ _ Within (λ f. stays (N4 i t (word m t)) hi ht) (λ f. stays (N1 i) hi (omega arith)))
  by_step (N3 i t) hi ht = tail_moved t (N1 i) ht hi (omega arith)
  by_step (N4 i t w) hi ht =
      cond_both (eqb (word m t) w) _ _ Within
      (λ e. writes (t % m.places) (m.places * (t / m.places) + i) (N5 t) (omega (arith, div-add-mod t m.places)) (omega arith) ht) (λ e. stays (N1 i) hi (omega arith))
  by_step (N5 t) hi ht = tail_moved t Idle ht (omega arith) (omega arith)
  by_step N6 hi ht = cond_both (eqb m.head l) _ _ Within (λ e. tt) (λ e. stays (N7 m.head) (omega arith) (omega (arith, all.counted.0, eqb-false m.head l e)))
  by_step (N7 h) hi ht =
      cond_both (eqb (cycle m.places (word m h)) (cycle m.places h)) _ _ Within (λ e. stays (N8 h (word m h)) hi ht)
      (λ e. cond_both (eqb (cycle m.places (word m h) + 1) (cycle m.places h)) _ _ Within (λ f. stays Idle hi (omega arith)) (λ f. stays N6 hi (omega arith)))
  by_step (N8 h w) hi ht =
      cond_both (eqb m.head h) _ _ Within
      (λ e. moves (h + 1) m.tail m.words Idle ht all.counted.1 all.words_low (omega arith) (omega arith)) (λ e. stays N6 (omega arith) (omega arith))

pub keeps_bounds : KeepsBounds Memory Stage steps StepFits Bounded
keeps_bounds = record {
  new_empty = λ n k l f. new_bounded n k l n (replicate 64 0) f (omega arith) (λ j. simp (get_or-same {X = ℕ} 64 j 0) (omega (arith, f.some_place)));
  new_full = λ n k l f. new_bounded n k l 0 (full_words n) f (omega arith) (full_words_low n l f.some_place);
  add_begun = λ k l m xs s i all e low. stays k l m xs s all (N1 i) (omega arith) (omega arith);
  take_begun = λ k l m xs s all e. stays k l m xs s all N6 (omega arith) (omega arith);
  step_fits = λ k l m xs s all here. record {
    limit_low = all.sized.3;
    tail_low = all.counted.1;
    head_low = all.counted.0;
    index_low = all.indices_low s;
    ticket_low = all.tickets_low s;
  };
  stepped = λ k l m m' xs s a st all here e. subst (Within k l m xs s all) e (by_step k l m xs s all (get_or xs s Idle) (all.indices_low s) (all.tickets_low s));
}
