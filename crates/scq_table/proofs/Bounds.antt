-- A new ring is within its bounds, and each call keeps them.
use Rattle.std.proofs.Common.{◌≡◌, ℕ, zero, suc, ◌+◌, ◌*◌, ◌<◌, ◌≤◌, ◌&&◌, eqb, leb, ltb, List, [], ◌∷◌, get_or, set, replicate, ℤ, pos, negsuc, ◌-ℤ◌, ◌≤ℤ◌, Ok, Err, sym, refl, ap, subst, ⊎_elim, arith, get_or-set_other}
use Rattle.std.specs.Prelude.{int_le, int_lt}
use Rattle.std.proofs.Props.{props}
use Rattle.std.proofs.lemmas.Int.{ints}
use Rattle.std.proofs.lemmas.Nat.{or_lt}
use Rattle.std.proofs.lemmas.Bool.{cases_lt, cond_both, eqb-false}
use Rattle.ring.proofs.Entries.{all_set, get_or-same}
use Rattle.ring.proofs.Scans.{one_if, count_most, count_fewer, count_same, count_moved}
use Rattle.ring.specs.Bounds.{Fitting, KeepsBounds}
use Rattle.scq_table.proofs.LowWords.{words-set, join_low, spoilt_low, new_words_low}
use Rattle.scq_table.specs.declared.Stage.{Stage}
use Rattle.scq_table.specs.declared.Stage.TheVariants.{Idle, A1, A2, A3, A4, A5, A6, T1, T2, T3, T4, T5, T6, T7, T8, T9, T10, T11}
use Rattle.scq_table.specs.Table.{cycle, slot, word_cycle, safe, index, bottom, top, join, int_equal, spoilt, new_words, Memory, word, with_threshold, Row, step, steps}
use Rattle.scq_table.specs.Within.{may_lower, Low, LowStages, LowWords, lowering, NotFarBelow, StepFits, Bounded}

pub bounded_prop : (k l : ℕ) (m : Memory) (stages : List Stage) → IsProp (Bounded k l m stages)
bounded_prop k l m stages = Prim.hlevel props

-- what is found where a value was set: that value, or nothing past the end
found_set : {X : Type 0} (P : X → Type 0) (xs : List X) (i : ℕ) (x d : X) → P x → P d → P (get_or (set xs i x) i d)
found_set P [] i x d p q = q
found_set P (y ∷ ys) zero x d p q = p
found_set P (y ∷ ys) (suc i) x d p q = found_set P ys i x d p q

-- Threshold

-- the station that moves is counted where it was and where it is
recount : (k : ℕ) (stages : List Stage) (s : ℕ) (st : Stage) → s < k →
    lowering k (set stages s st) + one_if (may_lower (get_or stages s Idle)) ≤ lowering k stages + one_if (may_lower st)
recount k stages s st l =
    let now = set stages s st in
    omega (
      arith,
      count_moved k (λ j. may_lower (get_or now j Idle)) (λ j. may_lower (get_or stages j Idle)) s l
          (λ j d. ap may_lower (get_or-set_other stages s j st Idle d)),
      found_set (λ v. one_if (may_lower v) ≤ one_if (may_lower st)) stages s st Idle (omega arith) (omega arith),
    )

-- a station goes on, and is counted no more than before
no_more : (k : ℕ) (stages : List Stage) (s : ℕ) (st : Stage) (z : ℤ) → one_if (may_lower st) ≤ one_if (may_lower (get_or stages s Idle)) →
    NotFarBelow k stages z → NotFarBelow k (set stages s st) z
no_more k stages s st z h b = ⊎_elim
    (λ l. omega (arith, ints, recount k stages s st l))
    (λ l. omega (
      arith,
      ints,
      count_same k (λ j. may_lower (get_or (set stages s st) j Idle)) (λ j. may_lower (get_or stages j Idle))
          (λ j m. ap may_lower (get_or-set_other stages s j st Idle (λ e. omega arith))),
    ))
    (cases_lt s k)

-- a take ends, and lowers Threshold
ends : (k : ℕ) (stages : List Stage) (s : ℕ) (st : Stage) (z : ℤ) → s < k → get_or stages s Idle ≡ st → one_if (may_lower st) ≡ 1 →
    NotFarBelow k stages z → NotFarBelow k (set stages s Idle) (z -ℤ pos 1)
ends k stages s st z l e h b = omega (arith, ints, recount k stages s Idle l, ap (λ v. one_if (may_lower v)) e)

-- as many stations as there are may lower a Threshold that is not below 0
not_below : (k : ℕ) (stages : List Stage) (z : ℤ) → pos 0 ≤ℤ z → NotFarBelow k stages z
not_below k stages z h = omega (arith, ints, count_most k (λ s. may_lower (get_or stages s Idle)))

-- nobody takes from a new ring, and somebody may
new_not_far_below : (k : ℕ) (z : ℤ) → 1 ≤ k → negsuc 0 ≤ℤ z → NotFarBelow k (replicate 64 Idle) z
new_not_far_below k z some h = omega (arith, ints, count_fewer k (λ s. may_lower (get_or (replicate 64 Idle) s Idle)) 0 (omega arith) refl)

-- a ring of n places, with the next add at t
new_bounded : (n k l t : ℕ) (z : ℤ) (words : List ℕ) → Fitting n k l → t ≤ 3 * n → negsuc 0 ≤ℤ z → z ≤ℤ top n → LowWords words →
    Bounded k l (record { places = n; head = 2 * n; tail = t; threshold = z; words = words }) (replicate 64 Idle)
new_bounded n k l t z words f low from upto low_words = record {
  sized = (f.some_place, f.few_places, omega (arith, f.crew, f.few_places), f.limit_low);
  counted = (omega (arith, f.limit_high), omega (arith, f.limit_high));
  threshold_high = upto;
  words_low = low_words;
  stages_low = λ s. simp (get_or-same 64 s Idle) (grind arith);
  threshold_low = new_not_far_below k z f.some_station from;
}

-- the bounds hold of all, and the station s comes to another step
module _ (k l : ℕ) (m : Memory) (xs : List Stage) (s : ℕ) (all : Bounded k l m xs) where
  -- a row that is carried out leaves all within the bounds
  abbrev Within : Row → Type 0
  Within (Ok (a, m', st)) = Bounded k l m' (set xs s st)
  Within (Err e) = Unit {0}

  stages_set : (st : Stage) → Low m.places l st → LowStages m.places l (set xs s st)
  stages_set st low = all_set (Low m.places l) xs s st Idle all.stages_low low

  -- Threshold may change
  counts : (st : Stage) (z : ℤ) → Low m.places l st → z ≤ℤ top m.places → NotFarBelow k (set xs s st) z → Bounded k l (with_threshold m z) (set xs s st)
  counts st z low high below = record {
    sized = all.sized;
    counted = all.counted;
    threshold_high = high;
    words_low = all.words_low;
    stages_low = stages_set st low;
    threshold_low = below;
  }

  -- Head, Tail or a word may change
  moves : (h t : ℕ) (words : List ℕ) (st : Stage) → h ≤ l → t ≤ l → LowWords words → Low m.places l st →
      one_if (may_lower st) ≤ one_if (may_lower (get_or xs s Idle)) →
      Bounded k l (record { places = m.places; head = h; tail = t; threshold = m.threshold; words = words }) (set xs s st)
  moves h t words st lh lt lw low fewer = record {
    sized = all.sized;
    counted = (lh, lt);
    threshold_high = all.threshold_high;
    words_low = lw;
    stages_low = stages_set st low;
    threshold_low = no_more k xs s st m.threshold fewer all.threshold_low;
  }

  -- nothing else changes
  stays : (st : Stage) → Low m.places l st → one_if (may_lower st) ≤ one_if (may_lower (get_or xs s Idle)) → Bounded k l m (set xs s st)
  stays st = moves m.head m.tail m.words st all.counted.0 all.counted.1 all.words_low

  module _ (now : Stage) (e : get_or xs s Idle ≡ now) where
    fewer : (st : Stage) → one_if (may_lower st) ≤ one_if (may_lower now) → one_if (may_lower st) ≤ one_if (may_lower (get_or xs s Idle))
    fewer st h = subst (λ v. one_if (may_lower st) ≤ one_if (may_lower v)) (sym e) h

    goes : (st : Stage) → Low m.places l st → one_if (may_lower st) ≤ one_if (may_lower now) → Bounded k l m (set xs s st)
    goes st low' h = stays st low' (fewer st h)

  module _ (here : s < k) where
    by_step : (now : Stage) → get_or xs s Idle ≡ now → Low m.places l now → Within (step m l now)
    by_step Idle e low = tt
    by_step (A1 i) e low = cond_both (eqb m.tail l) _ _ Within (λ _. tt)
        (λ f. moves m.head (m.tail + 1) m.words (A2 i m.tail) all.counted.0 (omega (arith, all.counted.1, eqb-false m.tail l f)) all.words_low
        (low.0, omega (arith, all.counted.1, eqb-false m.tail l f), omega arith, omega arith) (fewer (A1 i) e (A2 i m.tail) (omega arith)))
    by_step (A2 i t) e low = cond_both (ltb (word_cycle m.places (word m t)) (cycle m.places t) && eqb (index m.places (word m t)) (bottom m.places)) _ _ Within
        (λ _. cond_both (eqb (safe m.places (word m t)) 1) _ _ Within
        (λ _. goes (A2 i t) e (A4 i t (word m t)) (low.0, low.1, omega arith, all.words_low (slot m.places t)) (omega arith))
        (λ _. goes (A2 i t) e (A3 i t (word m t)) (low.0, low.1, omega arith, all.words_low (slot m.places t)) (omega arith)))
        (λ _. goes (A2 i t) e (A1 i) (grind arith) (omega arith))
    by_step (A3 i t w) e low = cond_both (leb m.head t) _ _ Within
        (λ _. goes (A3 i t w) e (A4 i t w) low (omega arith))
        (λ _. goes (A3 i t w) e (A1 i) (grind arith) (omega arith))
    by_step (A4 i t w) e low = cond_both (eqb (word m t) w) _ _ Within
        (λ _. moves m.head m.tail (set m.words (slot m.places t) (join m.places (cycle m.places t) 1 i)) (A5 t) all.counted.0 all.counted.1
        (words-set m.words (slot m.places t) _ all.words_low (join_low m.places t (cycle m.places t) 1 i (all.sized.1) (omega (arith, all.sized.3, low.1)) refl (omega arith) (omega (arith, all.sized.1, low.0))))
        (grind arith) (fewer (A4 i t w) e (A5 t) (omega arith)))
        (λ _. goes (A4 i t w) e (A2 i t) (grind arith) (omega arith))
    by_step (A5 t) e low = cond_both (int_equal m.threshold (top m.places)) _ _ Within
        (λ _. goes (A5 t) e Idle (grind arith) (omega arith))
        (λ _. goes (A5 t) e (A6 t) low (omega arith))
    by_step (A6 t) e low = counts Idle (top m.places) (grind arith) (omega (arith, ints))
        (not_below k _ (top m.places) (omega (arith, ints)))
    by_step T1 e low = cond_both (int_lt m.threshold (pos 0)) _ _ Within
        (λ _. goes T1 e Idle (grind arith) (omega arith))
        (λ f. counts T2 m.threshold (grind arith) all.threshold_high (not_below k _ m.threshold (grind (arith, ints))))
    by_step T2 e low = cond_both (eqb m.head l) _ _ Within (λ _. tt)
        (λ f. moves (m.head + 1) m.tail m.words (T3 m.head) (omega (arith, all.counted.0, eqb-false m.head l f)) all.counted.1 all.words_low
        (omega arith, omega (arith, all.counted.0, eqb-false m.head l f), omega arith, omega arith) (fewer T2 e (T3 m.head) (omega arith)))
    by_step (T3 h) e low = cond_both (eqb (word_cycle m.places (word m h)) (cycle m.places h)) _ _ Within
        (λ _. goes (T3 h) e (T4 h (word m h)) (low.0, low.1, omega arith, all.words_low (slot m.places h)) (omega arith))
        (λ _. cond_both (ltb (word_cycle m.places (word m h)) (cycle m.places h)) _ _ Within
        (λ _. goes (T3 h) e (T5 h (word m h)) (low.0, low.1, omega arith, all.words_low (slot m.places h)) (omega arith))
        (λ _. goes (T3 h) e (T6 h) (grind arith) (omega arith)))
    by_step (T4 h w) e low = moves m.head m.tail (set m.words (slot m.places h) _) Idle all.counted.0 all.counted.1
        (words-set m.words (slot m.places h) _ all.words_low (or_lt 40 _ _ (all.words_low (slot m.places h)) (omega (arith, all.sized.1))))
        (grind arith) (fewer (T4 h w) e Idle (omega arith))
    by_step (T5 h w) e low = cond_both (eqb (word m h) w) _ _ Within
        (λ _. moves m.head m.tail (set m.words (slot m.places h) (spoilt m.places h w)) (T6 h) all.counted.0 all.counted.1
        (words-set m.words (slot m.places h) _ all.words_low (spoilt_low m.places h w all.sized.1 (omega (arith, all.sized.3, low.1)) low.3))
        (grind arith) (fewer (T5 h w) e (T6 h) (omega arith)))
        (λ _. goes (T5 h w) e (T3 h) (grind arith) (omega arith))
    by_step (T6 h) e low = cond_both (leb m.tail (h + 1)) _ _ Within
        (λ _. goes (T6 h) e (T7 h m.tail (h + 1)) (grind arith) (omega arith))
        (λ _. goes (T6 h) e (T11 h) low (omega arith))
    by_step (T7 h u v) e low = cond_both (eqb m.tail u) _ _ Within
        (λ _. moves m.head v m.words (T10 h) all.counted.0 low.2 all.words_low (grind arith) (fewer (T7 h u v) e (T10 h) (omega arith)))
        (λ _. goes (T7 h u v) e (T8 h) (grind arith) (omega arith))
    by_step (T8 h) e low = goes (T8 h) e (T9 h m.head) (grind arith) (omega arith)
    by_step (T9 h v) e low = cond_both (leb v m.tail) _ _ Within
        (λ _. goes (T9 h v) e (T10 h) (grind arith) (omega arith))
        (λ _. goes (T9 h v) e (T7 h m.tail v) low (omega arith))
    by_step (T10 h) e low = counts Idle (m.threshold -ℤ pos 1) (grind arith) (omega (arith, ints, all.threshold_high))
        (ends k xs s (T10 h) m.threshold here e refl all.threshold_low)
    by_step (T11 h) e low = cond_both (int_le m.threshold (pos 0)) _ _ Within
        (λ _. counts Idle (m.threshold -ℤ pos 1) (grind arith) (omega (arith, ints, all.threshold_high))
        (ends k xs s (T11 h) m.threshold here e refl all.threshold_low))
        (λ f. counts T2 (m.threshold -ℤ pos 1) (grind arith) (omega (arith, ints, all.threshold_high))
        (not_below k _ (m.threshold -ℤ pos 1) (grind (arith, ints))))

-- who may lower Threshold finds it not below −k
lowest : (k : ℕ) (stages : List Stage) (z : ℤ) → k ≤ 64 → NotFarBelow k stages z → negsuc 63 ≤ℤ z
lowest k stages z few h = omega (arith, ints)

pub keeps_bounds : KeepsBounds Memory Stage steps StepFits Bounded
keeps_bounds = record {
  new_empty = λ n k l f. new_bounded n k l (2 * n) (negsuc 0) (new_words n 0) f (omega arith) (omega (arith, ints)) (omega (arith, ints)) (new_words_low n 0 f.few_places);
  new_full = λ n k l f. new_bounded n k l (3 * n) (top n) (new_words n n) f (omega arith) (omega (arith, ints)) (omega (arith, ints)) (new_words_low n n f.few_places);
  add_begun = λ k l m xs s i all e low. stays k l m xs s all (A1 i) (grind arith) (omega arith);
  take_begun = λ k l m xs s all e. stays k l m xs s all T1 (grind arith) (omega arith);
  step_fits = λ k l m xs s all here. record {
    limit_low = all.sized.3;
    head_low = all.counted.0;
    tail_low = all.counted.1;
    threshold_low = lowest k xs m.threshold all.sized.2 all.threshold_low;
    registers_low = all.stages_low s;
  };
  stepped = λ k l m m' xs s a st all here e. subst (Within k l m xs s all) e (by_step k l m xs s all here (get_or xs s Idle) refl (all.stages_low s));
}
