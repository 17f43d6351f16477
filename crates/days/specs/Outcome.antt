-- What each call of a hub does, exactly, over whatever its two rings do: the answer, the hub after it and
-- the rack after it. A refused call leaves both as they were.
--
-- Hub              a hub as its calls see it: its sizes, its two rings, and where each station's call stands
-- told             what a call answers, and where it stands next, when its ring has told of a turn
-- made             what a make gives
-- put_begun, take_begun, turned
--                  what a begin-put, a begin-take and a turn do
--
-- Assumes nothing.
use Rattle.std.specs.Prelude.{ℕ, ◌+◌, Bool, true, false, if◌then◌else◌, List, length, replicate, Some, None, Ok, Err, Result, ◌==◌, nat_lt, slice_index_or, slice_set}
use Rattle.ring.specs.declared.Answer.{Answer}
use Rattle.ring.specs.declared.Answer.TheVariants as answer
use Rattle.ring.specs.declared.Progress.{Progress}
use Rattle.ring.specs.declared.Progress.TheVariants.{Going, Added, Taken}
use Rattle.ring.specs.declared.Refusal.{Refusal}
use Rattle.ring.specs.declared.Refusal.TheVariants.{Rack, NoStation, Busy, NoCall}
use Rattle.ring.specs.declared.Ring.{Ghosts}
use Rattle.days.specs.declared.Stage.{Stage}
use Rattle.days.specs.declared.Stage.TheVariants.{Idle, TakeFree, Store, AddWaiting, TakeWaiting, Fetch, AddFree}
use Rattle.days.specs.Racks.{copied, hand}

-- over the states F and A of its free ring and its waiting ring
pub record Hub (F A : Type 0) : Type 0 where
  pub places : ℕ
  pub stations : ℕ
  pub free : F
  pub waiting : A
  pub stages : List Stage

-- a take ends with an index, which leads on to `next`, or with none, which ends the call
abbrev take_told : Stage → (ℕ → Stage) → Answer → Progress → Answer × Stage
take_told here next none Going = (answer.Going, here)
take_told here next none Added = (answer.Going, here)
take_told here next none (Taken (Some i)) = (answer.Going, next i)
take_told here next none (Taken None) = (none, Idle)

-- an add ends the call
abbrev add_told : Stage → Answer → Progress → Answer × Stage
add_told here done Going = (answer.Going, here)
add_told here done Added = (done, Idle)
add_told here done (Taken i) = (answer.Going, here)

abbrev pub told : Stage → Progress → Answer × Stage
told Idle p = (answer.Going, Idle)
told TakeFree p = take_told TakeFree Store answer.PutFull p
told (Store i) p = (answer.Going, Store i)
told AddWaiting p = add_told AddWaiting answer.PutDone p
told TakeWaiting p = take_told TakeWaiting Fetch answer.TakeEmpty p
told (Fetch i) p = (answer.Going, Fetch i)
told AddFree p = add_told AddFree answer.TakeDone p

abbrev pub is_idle : Stage → Bool
is_idle Idle = true
is_idle TakeFree = false
is_idle (Store i) = false
is_idle AddWaiting = false
is_idle TakeWaiting = false
is_idle (Fetch i) = false
is_idle AddFree = false

module _ {F A : Type 0} where
  -- where station s's call stands
  abbrev pub stage_of : Hub F A → ℕ → Stage
  stage_of h s = slice_index_or h.stages s Idle

  -- the rack has one record for each place and one for each station
  abbrev pub fits : {R : Type 0} → Hub F A → List R → Bool
  fits h rack = length rack == h.places + h.stations

  -- the hub with another free ring, or another waiting ring, and another stage of station s
  abbrev pub with_free : Hub F A → F → ℕ → Stage → Hub F A
  with_free h q s st = record { places = h.places; stations = h.stations; free = q; waiting = h.waiting; stages = slice_set h.stages s st }

  abbrev pub with_waiting : Hub F A → A → ℕ → Stage → Hub F A
  with_waiting h q s st = record { places = h.places; stations = h.stations; free = h.free; waiting = q; stages = slice_set h.stages s st }

  abbrev both_made : ℕ → ℕ → Result F Refusal → Result A Refusal → Result (Hub F A) Refusal
  both_made n k (Ok q) (Ok p) = Ok (record { places = n; stations = k; free = q; waiting = p; stages = replicate 64 Idle })
  both_made n k (Ok q) (Err e) = Err e
  both_made n k (Err e) p = Err e

-- the free ring is made full, the waiting ring empty
abbrev pub made : {F A : Type 0} (f : Ghosts F) (a : Ghosts A) → ℕ → ℕ → ℕ → Result (Hub f.state a.state) Refusal
made f a n k l = both_made n k (f.full n k l) (a.empty n k l)

abbrev pub Outcome : Type 0 → Type 0 → Type 0 → Type 0
Outcome F A R = Result Answer Refusal × Hub F A × List R

module _ {F A R : Type 0} where
  -- the record is copied into the hand, and the free ring has begun a take
  abbrev put_taken : Hub F A → List R → ℕ → R → Result Progress Refusal → F → Outcome F A R
  put_taken h rack s r (Ok p) q = (Ok answer.Going, with_free h q s TakeFree, slice_set rack (hand h.places s) r)
  put_taken h rack s r (Err e) q = (Err e, h, rack)

  -- a turn of a ring
  abbrev free_turned : Hub F A → List R → ℕ → Stage → Result Progress Refusal → F → Outcome F A R
  free_turned h rack s st (Ok p) q = (Ok (told st p).0, with_free h q s (told st p).1, rack)
  free_turned h rack s st (Err e) q = (Err e, h, rack)

  abbrev waiting_turned : Hub F A → List R → ℕ → Stage → Result Progress Refusal → A → Outcome F A R
  waiting_turned h rack s st (Ok p) q = (Ok (told st p).0, with_waiting h q s (told st p).1, rack)
  waiting_turned h rack s st (Err e) q = (Err e, h, rack)

  -- the store turn: from the hand to place i, whose index the waiting ring has begun to add
  abbrev stored : Hub F A → List R → ℕ → ℕ → Result Progress Refusal → A → Outcome F A R
  stored h rack s i (Ok p) q = (Ok answer.Going, with_waiting h q s AddWaiting, copied rack (hand h.places s) i)
  stored h rack s i (Err e) q = (Err e, h, rack)

  -- the fetch turn: from place i, whose index the free ring has begun to add, to the hand
  abbrev fetched : Hub F A → List R → ℕ → ℕ → Result Progress Refusal → F → Outcome F A R
  fetched h rack s i (Ok p) q = (Ok answer.Going, with_free h q s AddFree, copied rack i (hand h.places s))
  fetched h rack s i (Err e) q = (Err e, h, rack)

module _ {F A : Type 0} (f : Ghosts F) (a : Ghosts A) where
  abbrev taken : Hub f.state a.state → ℕ → Result Progress Refusal → a.state → Result Answer Refusal × Hub f.state a.state
  taken h s (Ok p) q = (Ok answer.Going, with_waiting h q s TakeWaiting)
  taken h s (Err e) q = (Err e, h)

  abbrev pub take_begun : Hub f.state a.state → ℕ → Result Answer Refusal × Hub f.state a.state
  take_begun h s =
      if nat_lt s h.stations then
      (if is_idle (stage_of h s) then taken h s (a.takes h.waiting s).0 (a.takes h.waiting s).1 else (Err Busy, h))
      else (Err NoStation, h)

  module _ {R : Type 0} where
    abbrev pub put_begun : Hub f.state a.state → List R → ℕ → R → Outcome f.state a.state R
    put_begun h rack s r =
        if fits h rack then
        (if nat_lt s h.stations then
        (if is_idle (stage_of h s) then put_taken h rack s r (f.takes h.free s).0 (f.takes h.free s).1 else (Err Busy, h, rack))
        else (Err NoStation, h, rack))
        else (Err Rack, h, rack)

    -- one turn of station s, by where its call stands
    abbrev pub stepped : Hub f.state a.state → List R → ℕ → Stage → Outcome f.state a.state R
    stepped h rack s Idle = (Err NoCall, h, rack)
    stepped h rack s TakeFree = free_turned h rack s TakeFree (f.turns h.free s).0 (f.turns h.free s).1
    stepped h rack s (Store i) = stored h rack s i (a.adds h.waiting s i).0 (a.adds h.waiting s i).1
    stepped h rack s AddWaiting = waiting_turned h rack s AddWaiting (a.turns h.waiting s).0 (a.turns h.waiting s).1
    stepped h rack s TakeWaiting = waiting_turned h rack s TakeWaiting (a.turns h.waiting s).0 (a.turns h.waiting s).1
    stepped h rack s (Fetch i) = fetched h rack s i (f.adds h.free s i).0 (f.adds h.free s i).1
    stepped h rack s AddFree = free_turned h rack s AddFree (f.turns h.free s).0 (f.turns h.free s).1

    abbrev pub turned : Hub f.state a.state → List R → ℕ → Outcome f.state a.state R
    turned h rack s =
        if fits h rack then
        (if nat_lt s h.stations then stepped h rack s (stage_of h s) else (Err NoStation, h, rack))
        else (Err Rack, h, rack)
