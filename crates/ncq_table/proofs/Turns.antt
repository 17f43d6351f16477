-- Each row of the table does what a ring may do.
use Rattle.std.proofs.Common.{◌≡◌, ℕ, ◌+◌, ◌<◌, ◌≤◌, false, eqb, Some, None, Ok, sym, refl, ap, ◌∙◌, subst, inl, inr, arith}
use Rattle.std.proofs.lemmas.Bool.{cond_both, eqb-true, eqb-false}
use Rattle.ring.specs.declared.Progress.{Progress}
use Rattle.ring.specs.declared.Progress.TheVariants.{Going, Added, Taken}
use Rattle.ring.specs.Model.{Doing, idle, adding, closing, seeking, Model}
use Rattle.ring.specs.Meaning.{SamePairs, Leaves, AddGoes, CloseGoes, Ticket, AllHeld, SeekGoes, Goes, AddMark, TakeMark, AtLimit, TurnRefused, Turned}
use Rattle.ring.proofs.Entries.{put_same, put_other}
use Rattle.ring.proofs.Leaving.{left_outside}
use Rattle.ring.proofs.Calls.{turned_means}
use Rattle.ncq_table.specs.declared.Stage.{Stage}
use Rattle.ncq_table.specs.declared.Stage.TheVariants.{Idle, N1, N2, N3, N4, N5, N6, N7, N8}
use Rattle.ring.specs.Tables.{moved, carried}
use Rattle.ncq_table.specs.Table.{cycle, index, join, Memory, word, move_tail, with_head, with_word, step, State, stage, turns}
use Rattle.ncq_table.specs.Stands.{Fits, writes, Does, left, Shared, Stands}
use Rattle.ncq_table.proofs.Pairs.{pair_there, pair_is}
use Rattle.ncq_table.proofs.Window.{filled_low, before_end, near_slot, few}
use Rattle.ncq_table.proofs.Stations.{none_holds, tail_up, fits_tail, shared_tail, head_up, fits_head, shared_head, pair_gone, pair_stays, word_in, fits_word, shared_word, pair_before, pair_after, pair_rest}
use Rattle.ncq_table.proofs.Lone.{n1_n2, n2_n3, n2_n4, n2_n1, n3_n1, n3_moved, n4_n1, n4_n5, n6_n7, n7_n8, n7_n6, n7_ends, n8_n6, n8_ends}
use Rattle.ncq_table.proofs.Built.{each_once, then, row}

module _ (q : State) (m : Model) (h : Stands q m) (s : ℕ) (here : s < q.stations) where
  abbrev mem : Memory
  mem = q.memory

  abbrev e : ℕ
  e = h.end

  abbrev sh : Shared mem e
  sh = h.sound.shared

  abbrev Goal : Progress → Memory → Stage → Type 0
  Goal a m' st = Turned Stands m s (Ok a, moved q s m' st)

  -- the station's new doing
  mine : (a : Progress) (m' : Memory) (st : Stage) (d : Doing) → (then q m h s here a m' st d).doing s ≡ d
  mine a m' st d = put_same m.doing s d

  -- a row that leaves the words and Head
  same_end : (a : Progress) (m' : Memory) (st : Stage) (d : Doing) → m'.places ≡ mem.places → m'.head ≡ mem.head → mem.tail ≤ m'.tail →
      Shared m' e → ((x : Stage) → Fits mem e x → Fits m' e x) → AddMark m (then q m h s here a m' st d) →
      Fits mem e st → Does m' st d → ((i : ℕ) → writes st ≡ Some i → writes (stage q s) ≡ Some i) →
      left m' e st < left mem e (stage q s) → Goes m s (m.doing s) a (then q m h s here a m' st d) → Goal a m' st
  same_end a m' st d same head_same up shared fits_on adds f p w l g = row q m h s here a m' st d e (record {
    places_stay = same;
    shared = shared;
    fits_mine = fits_on st f;
    fits_others = λ r o. fits_on (stage q r) (h.sound.fits r);
    does_mine = p;
    tail_on = up;
    head_on = omega arith;
    writes_less = w;
    sooner = l;
    goes = g;
    adds = adds;
    takes = TakeMark.stays (head_same ∙ sym h.takes_at);
  })

  -- a row that leaves the memory
  quiet : (a : Progress) (st : Stage) (d : Doing) → Fits mem e st → Does mem st d → ((i : ℕ) → writes st ≡ Some i → writes (stage q s) ≡ Some i) →
      left mem e st < left mem e (stage q s) → Goes m s (m.doing s) a (then q m h s here a mem st d) → Goal a mem st
  quiet a st d = same_end a mem st d refl refl (omega arith) sh (λ x f. f) (AddMark.stays (sym h.adds_at))

  -- a row that moves Tail past the last pair
  tail_row : (a : Progress) (st : Stage) (d : Doing) → mem.tail < e → Fits mem e st → Does (tail_up mem) st d →
      ((i : ℕ) → writes st ≡ Some i → writes (stage q s) ≡ Some i) →
      left (tail_up mem) e st < left mem e (stage q s) → Goes m s (m.doing s) a (then q m h s here a (tail_up mem) st d) → Goal a (tail_up mem) st
  tail_row a st d low = same_end a (tail_up mem) st d refl refl (omega arith) (shared_tail mem e sh low) (fits_tail mem e) (AddMark.rises (omega (arith, h.adds_at)))

  -- a compare-and-set of Tail from t: what it leaves
  by_tail : (a : Progress) (t : ℕ) (st : Stage) → (t ≡ mem.tail → Goal a (tail_up mem) st) → ((t ≡ mem.tail → ⊥) → Goal a mem st) → Goal a (move_tail mem t) st
  by_tail a t st hit miss = cond_both (eqb mem.tail t) _ _ (λ x. Goal a x st)
      (λ c. let p : mem.tail ≡ t = eqb-true mem.tail t c in
      subst (λ x. Goal a (record { places = mem.places; head = mem.head; tail = x + 1; words = mem.words }) st) p (hit (sym p)))
      (λ c. miss (λ p. eqb-false mem.tail t c (sym p)))

  no_index : (i : ℕ) → None ≡ Some i → writes (stage q s) ≡ Some i
  no_index i w = cc

  -- the station's step tells what it does and what its registers say

  does_at : (st : Stage) → stage q s ≡ st → Does mem st (m.doing s)
  does_at st at = subst (λ x. Does mem x (m.doing s)) at (h.does s)

  fits_at : (st : Stage) → stage q s ≡ st → Fits mem e st
  fits_at st at = subst (Fits mem e) at (h.sound.fits s)

  sooner_at : (st : Stage) (x : ℕ) → stage q s ≡ st → x < left mem e st → x < left mem e (stage q s)
  sooner_at st x at l = subst (λ y. x < left mem e y) (sym at) l

  -- adding

  module _ (i f : ℕ) (de : m.doing s ≡ adding i f) where
    adding_on : (m' : Memory) (st : Stage) → SamePairs m (then q m h s here Going m' st (adding i f)) → Goes m s (m.doing s) Going (then q m h s here Going m' st (adding i f))
    adding_on m' st p = subst (λ d. Goes m s d Going (then q m h s here Going m' st (adding i f))) (sym de) (AddGoes.stays refl (mine Going m' st (adding i f)) p)

    -- from a step that adds i to another that does, by a load or a compare-and-set that failed
    quiet_add : (st₀ st : Stage) → stage q s ≡ st₀ → writes st₀ ≡ Some i → writes st ≡ Some i → Fits mem e st → Does mem st (adding i f) →
        left mem e st < left mem e st₀ → Goal Going mem st
    quiet_add st₀ st at w₀ w p d l = quiet Going st (adding i f) p d (λ j v. ap writes at ∙ (w₀ ∙ (sym w ∙ v))) (sooner_at st₀ (left mem e st) at l)
        (adding_on mem st (λ t. sym (h.pairs t)))

  turn_n1 : (i : ℕ) → stage q s ≡ N1 i → Turned Stands m s (carried q s (step mem q.limit (N1 i)))
  turn_n1 i at = cond_both (eqb mem.tail q.limit) _ _ (λ r. Turned Stands m s (carried q s r))
      (λ c. TurnRefused.at_limit refl (omega (arith, h.stations)) (subst (AtLimit m) (sym d.2) (h.adds_at ∙ (eqb-true _ _ c ∙ sym h.limit))))
      (λ c. quiet_add i d.0 d.2 (N1 i) (N2 i mem.tail) at refl refl (p.0, p.1, omega arith) (d.0, d.1, refl) (n1_n2 mem e i 0))
    where
      d : Does mem (N1 i) (m.doing s)
      d = does_at (N1 i) at

      p : Fits mem e (N1 i)
      p = fits_at (N1 i) at

  turn_n2 : (i t : ℕ) → stage q s ≡ N2 i t → Turned Stands m s (carried q s (step mem q.limit (N2 i t)))
  turn_n2 i t at = cond_both (eqb (cycle mem.places w) (cycle mem.places t)) _ _ (λ r. Turned Stands m s (carried q s r))
      (λ c. let low : t < e = filled_low mem e sh t (eqb-true _ _ c) in
      quiet_add i d.0 d.2 (N2 i t) (N3 i t) at refl refl (p.0, p.1, low) (d.0, d.1, refl) (n2_n3 mem e i t low))
      (λ c. cond_both (eqb (cycle mem.places w + 1) (cycle mem.places t)) _ _ (λ r. Turned Stands m s (carried q s r))
      (λ c'. quiet_add i d.0 d.2 (N2 i t) (N4 i t w) at refl refl (p.0, p.1, p.2, eqb-true _ _ c') (d.0, d.1, refl) (n2_n4 mem e i t))
      (λ c'. let late : t ≡ mem.tail → ⊥ = λ z. near_slot mem e sh t (omega (arith, sh.tail_low)) (omega (arith, sh.tail_near, sh.some_place)) (eqb-false _ _ c) (eqb-false _ _ c') in
      quiet_add i d.0 d.2 (N2 i t) (N1 i) at refl refl (p.0, p.1) (d.0, omega (arith, d.1, p.2), refl) (n2_n1 mem e i t late)))
    where
      d : Does mem (N2 i t) (m.doing s)
      d = does_at (N2 i t) at

      p : Fits mem e (N2 i t)
      p = fits_at (N2 i t) at

      w : ℕ
      w = word mem t

  turn_n3 : (i t : ℕ) → stage q s ≡ N3 i t → Turned Stands m s (carried q s (step mem q.limit (N3 i t)))
  turn_n3 i t at = by_tail Going t (N1 i)
      (λ c. let low : mem.tail < e = omega (arith, p.2) in
      tail_row Going (N1 i) (adding i d.0) low (p.0, p.1) (d.0, omega (arith, d.1), refl) (λ j v. ap writes at ∙ v)
      (sooner_at (N3 i t) (left (tail_up mem) e (N1 i)) at (n3_moved mem (tail_up mem) e i t c (omega (arith, sh.tail_near))))
      (adding_on i d.0 d.2 (tail_up mem) (N1 i) (λ u. sym (h.pairs u))))
      (λ c. quiet_add i d.0 d.2 (N3 i t) (N1 i) at refl refl (p.0, p.1) (d.0, omega (arith, d.1, p.2, sh.tail_near), refl) (n3_n1 mem e i t c))
    where
      d : Does mem (N3 i t) (m.doing s)
      d = does_at (N3 i t) at

      p : Fits mem e (N3 i t)
      p = fits_at (N3 i t) at

  turn_n4 : (i t w : ℕ) → stage q s ≡ N4 i t w → Turned Stands m s (carried q s (step mem q.limit (N4 i t w)))
  turn_n4 i t w at = cond_both (eqb (word mem t) w) _ _ (λ r. Turned Stands m s (carried q s r))
      (λ c. let same : word mem t ≡ w = eqb-true _ _ c in
      let last : t ≡ e = before_end mem e sh t (omega (arith, p.2, sh.tail_low)) (ap (λ x. cycle mem.places x + 1) same ∙ p.3) in
      subst (λ u. Goal Going (with_word mem u (join mem.places (cycle mem.places u) i)) (N5 u)) (sym last) (written last same))
      (λ c. quiet_add i d.0 d.2 (N4 i t w) (N1 i) at refl refl (p.0, p.1) (d.0, omega (arith, d.1, p.2), refl) (n4_n1 mem e i t w (eqb-false _ _ c)))
    where
      d : Does mem (N4 i t w) (m.doing s)
      d = does_at (N4 i t w) at

      p : Fits mem e (N4 i t w)
      p = fits_at (N4 i t w) at

      written : t ≡ e → word mem t ≡ w → Goal Going (with_word mem e (join mem.places (cycle mem.places e) i)) (N5 e)
      written last same =
          let level : e ≤ mem.tail = omega (arith, p.2) in
          let m' : Memory = word_in mem e sh i p.0 p.1 level in
          row q m h s here Going m' (N5 e) (closing e) (e + 1) (record {
            places_stay = refl;
            shared = shared_word mem e sh i p.0 p.1 level;
            fits_mine = omega arith;
            fits_others = λ r o. fits_word mem e sh i p.0 p.1 level (stage q r) (λ v. o (h.sound.one_writer r s i v (ap writes at))) (h.sound.fits r);
            does_mine = refl;
            tail_on = omega arith;
            head_on = omega arith;
            writes_less = no_index;
            sooner = sooner_at (N4 i t w) 1 at (n4_n5 mem e i t m' (e + 1) w same);
            goes = subst (λ x. Goes m s x Going (then q m h s here Going m' (N5 e) (closing e))) (sym d.2)
                (AddGoes.enters e refl (mine Going m' (N5 e) (closing e))
                (record {
                  before = h.pairs e ∙ pair_before mem e sh i p.0 p.1 level;
                  after = pair_after mem e sh i p.0 p.1 level;
                  rest = λ u o. pair_rest mem e sh i p.0 p.1 level u o ∙ sym (h.pairs u);
                })
                (omega (arith, d.1)) (λ low. absurd (omega (arith, h.takes_at, sh.head_low))));
            adds = AddMark.stays (sym h.adds_at);
            takes = TakeMark.stays (sym h.takes_at);
          })

  turn_n5 : (t : ℕ) → stage q s ≡ N5 t → Turned Stands m s (carried q s (step mem q.limit (N5 t)))
  turn_n5 t at = by_tail Added t Idle
      (λ c. tail_row Added Idle idle (omega (arith, p)) tt refl no_index (sooner_at (N5 t) 0 at (omega arith)) (closed (tail_up mem) (λ u. sym (h.pairs u)) (omega arith)))
      (λ c. quiet Added Idle idle tt refl no_index (sooner_at (N5 t) 0 at (omega arith)) (closed mem (λ u. sym (h.pairs u)) (omega (arith, p, sh.tail_near))))
    where
      p : t < e
      p = fits_at (N5 t) at

      closed : (m' : Memory) → SamePairs m (then q m h s here Added m' Idle idle) → t < m'.tail → Goes m s (m.doing s) Added (then q m h s here Added m' Idle idle)
      closed m' a l = subst (λ x. Goes m s x Added (then q m h s here Added m' Idle idle)) (sym (does_at (N5 t) at)) (CloseGoes.ends refl (mine Added m' Idle idle) a l)

  -- taking

  module _ (f : ℕ) (de : m.doing s ≡ seeking f None false) where
    -- from a step that takes to another, by a load or a compare-and-set that failed
    quiet_take : (st₀ st : Stage) → stage q s ≡ st₀ → ((i : ℕ) → writes st ≡ Some i → None ≡ Some i) → Fits mem e st → Does mem st (seeking f None false) →
        left mem e st < left mem e st₀ → Goal Going mem st
    quiet_take st₀ st at w p d l = quiet Going st (seeking f None false) p d (λ i v. no_index i (w i v)) (sooner_at st₀ (left mem e st) at l)
        (subst (λ x. Goes m s x Going (then q m h s here Going mem st (seeking f None false))) (sym de)
        (SeekGoes.goes_on None false refl (mine Going mem st (seeking f None false)) (λ t. sym (h.pairs t)) (Ticket.keeps refl) (λ b. inl b)))

  turn_n6 : stage q s ≡ N6 → Turned Stands m s (carried q s (step mem q.limit N6))
  turn_n6 at = cond_both (eqb mem.head q.limit) _ _ (λ r. Turned Stands m s (carried q s r))
      (λ c. TurnRefused.at_limit refl (omega (arith, h.stations)) (subst (AtLimit m) (sym d.2) (refl, h.takes_at ∙ (eqb-true _ _ c ∙ sym h.limit))))
      (λ c. quiet_take d.0 d.2 N6 (N7 mem.head) at (λ i v. v) (omega arith) (d.0, d.1, refl) (n6_n7 mem e 0 0))
    where
      d : Does mem N6 (m.doing s)
      d = does_at N6 at

  turn_n7 : (t : ℕ) → stage q s ≡ N7 t → Turned Stands m s (carried q s (step mem q.limit (N7 t)))
  turn_n7 t at = cond_both (eqb (cycle mem.places w) (cycle mem.places t)) _ _ (λ r. Turned Stands m s (carried q s r))
      (λ c. quiet_take d.0 d.2 (N7 t) (N8 t w) at (λ i v. v) (p, eqb-true _ _ c, λ z. refl) (d.0, d.1, refl) (n7_n8 mem e 0 t w))
      (λ c. cond_both (eqb (cycle mem.places w + 1) (cycle mem.places t)) _ _ (λ r. Turned Stands m s (carried q s r))
      (λ c'. let last : t ≡ e = before_end mem e sh t (omega (arith, p, sh.head_low)) (eqb-true _ _ c') in
      quiet (Taken None) Idle idle tt refl no_index (sooner_at (N7 t) 0 at (n7_ends mem e 0 t))
      (subst (λ x. Goes m s x (Taken None) (then q m h s here (Taken None) mem Idle idle)) (sym d.2)
      (SeekGoes.ends_with_none refl (mine (Taken None) mem Idle idle) (λ u. sym (h.pairs u)) (λ u z. cc) (inr (bare last)))))
      (λ c'. let late : t ≡ mem.head → ⊥ = λ z. near_slot mem e sh t (omega (arith, sh.head_low)) (omega (arith, few mem e sh)) (eqb-false _ _ c) (eqb-false _ _ c') in
      quiet_take d.0 d.2 (N7 t) N6 at (λ i v. v) tt (d.0, omega (arith, d.1, p), refl) (n7_n6 mem e 0 t late)))
    where
      d : Does mem (N7 t) (m.doing s)
      d = does_at (N7 t) at

      p : t ≤ mem.head
      p = fits_at (N7 t) at

      w : ℕ
      w = word mem t

      -- there is no pair
      bare : t ≡ e → AllHeld m s
      bare last u i v o =
          let f = pair_is mem u i (sym (h.pairs u) ∙ v) in
          absurd (omega (arith, p, sh.head_low, f.0, filled_low mem e sh u f.1))

  turn_n8 : (t w : ℕ) → stage q s ≡ N8 t w → Turned Stands m s (carried q s (step mem q.limit (N8 t w)))
  turn_n8 t w at = cond_both (eqb mem.head t) _ _ (λ r. Turned Stands m s (carried q s r))
      (λ c. let first : mem.head ≡ t = eqb-true _ _ c in
      subst (λ u. Goal (Taken (Some (index mem.places w))) (with_head mem (u + 1)) Idle) first (taken (sym first)))
      (λ c. quiet_take d.0 d.2 (N8 t w) N6 at (λ i v. v) tt (d.0, omega (arith, d.1, p.0), refl) (n8_n6 mem e 0 t w (λ z. eqb-false _ _ c (sym z))))
    where
      d : Does mem (N8 t w) (m.doing s)
      d = does_at (N8 t w) at

      p : Fits mem e (N8 t w)
      p = fits_at (N8 t w) at

      a : Progress
      a = Taken (Some (index mem.places w))

      taken : t ≡ mem.head → Goal (Taken (Some (index mem.places w))) (head_up mem) Idle
      taken first =
          let same : word mem mem.head ≡ w = sym (p.2 first ∙ ap (word mem) first) in
          let cycled : cycle mem.places (word mem mem.head) ≡ cycle mem.places mem.head = ap (cycle mem.places) same ∙ (p.1 ∙ ap (cycle mem.places) first) in
          let i : ℕ = index mem.places w in
          let m' : Model = then q m h s here a (head_up mem) Idle idle in
          let before : m.under mem.head ≡ Some i =
          h.pairs mem.head ∙ (pair_there mem mem.head (omega arith) cycled ∙ ap (λ x. Some (index mem.places x)) same) in
          let rest : (u : ℕ) → (u ≡ mem.head → ⊥) → m'.under u ≡ m.under u = λ u o. pair_stays mem u o ∙ sym (h.pairs u) in
          let leaves : Leaves m mem.head i m' = record {
            before = before;
            after = pair_gone mem;
            rest = rest;
            outside = left_outside m m' s mem.head i (each_once q m h) before (pair_gone mem) rest (mine a (head_up mem) Idle idle) (put_other m.doing s idle);
          } in
          row q m h s here a (head_up mem) Idle idle e (record {
            places_stay = refl;
            shared = shared_head mem e sh (filled_low mem e sh mem.head cycled);
            fits_mine = tt;
            fits_others = λ r o. fits_head mem e (stage q r) (h.sound.fits r);
            does_mine = refl;
            tail_on = omega arith;
            head_on = omega arith;
            writes_less = no_index;
            sooner = sooner_at (N8 t w) 0 at (n8_ends mem e 0 t w);
            goes = subst (λ x. Goes m s x a (then q m h s here a (head_up mem) Idle idle)) (sym d.2)
                (SeekGoes.ends_with_unheld mem.head (index mem.places w) refl (mine a (head_up mem) Idle idle) leaves refl
                (λ r z. none_holds mem (stage q r) (m.doing r) z.0 mem.head z.1 (h.does r) z.2) (omega (arith, d.1)) (omega arith));
            adds = AddMark.stays (sym h.adds_at);
            takes = TakeMark.passes_taken (index mem.places w) (omega (arith, h.takes_at)) refl
                (subst (λ x. Leaves m x (index mem.places w) (then q m h s here a (head_up mem) Idle idle)) (sym h.takes_at) leaves);
          })

  by_step : (st : Stage) → stage q s ≡ st → Turned Stands m s (carried q s (step mem q.limit st))
  by_step Idle at = TurnRefused.no_call refl (omega (arith, h.stations)) (does_at Idle at)
  by_step (N1 i) at = turn_n1 i at
  by_step (N2 i t) at = turn_n2 i t at
  by_step (N3 i t) at = turn_n3 i t at
  by_step (N4 i t w) at = turn_n4 i t w at
  by_step (N5 t) at = turn_n5 t at
  by_step N6 at = turn_n6 at
  by_step (N7 t) at = turn_n7 t at
  by_step (N8 t w) at = turn_n8 t w at

pub means_turn : (q : State) (s : ℕ) (m : Model) → Stands q m → Turned Stands m s (turns q s)
means_turn q s m h = turned_means Stands Idle q m s h.stations step (λ c. by_step q m h s c (stage q s) refl)
