-- A ring as a table of steps: a memory that the stations share, and for each station the step that its
-- next turn makes.
--
-- State            a ring: its sizes, the memory, and where each station's call stands
-- Row              what a row of the table says: the answer, the memory after and the next step, or a refusal
-- told, applied    what a row tells, and what it leaves
-- moved, carried   the ring after a row
-- turned           what a turn does
-- add_begun, take_begun
--                  what a begin-add and a begin-take do
-- made             what a make gives
-- Steps            all that a ring's own table says
-- Tells            what a row tells and leaves
-- empty, full, adds, takes, turns
--                  the exact outcome of each call of the ring that goes by such a table
--
-- Assumes nothing.
use Rattle.std.specs.Prelude.{◌≡◌, ℕ, Bool, if◌then◌else◌, not, ◌&&◌, List, replicate, Ok, Err, Result, nat_lt, slice_index_or, slice_set}
use Rattle.ring.specs.declared.Progress.{Progress}
use Rattle.ring.specs.declared.Progress.TheVariants.{Going}
use Rattle.ring.specs.declared.Refusal.{Refusal}
use Rattle.ring.specs.declared.Refusal.TheVariants.{NoStation, Busy, NoIndex, NotOutside}
use Rattle.ring.specs.Scans.{any_below}
use Rattle.ring.specs.Sizes.{make_checked}

pub record State (Memory Stage : Type 0) : Type 0 where
  pub stations : ℕ
  -- the ticket limit
  pub limit : ℕ
  pub memory : Memory
  pub stages : List Stage

abbrev pub Row : Type 0 → Type 0 → Type 0
Row Memory Stage = Result (Progress × Memory × Stage) Refusal

abbrev pub Outcome : Type 0 → Type 0 → Type 0
Outcome Memory Stage = Result Progress Refusal × State Memory Stage

module _ {Memory Stage : Type 0} where
  -- what a row tells, with the next step, and the memory after it
  abbrev pub told : Row Memory Stage → Memory → Result (Progress × Stage) Refusal × Memory
  told (Ok (a, m', st')) m = (Ok (a, st'), m')
  told (Err e) m = (Err e, m)

  -- what a row tells of a station at step st, and the memory and that step after it
  abbrev pub applied : Row Memory Stage → Memory → Stage → Result Progress Refusal × Memory × Stage
  applied (Ok (a, m', st')) m st = (Ok a, m', st')
  applied (Err e) m st = (Err e, m, st)

  -- the ring with another memory and another step of station s
  abbrev pub moved : State Memory Stage → ℕ → Memory → Stage → State Memory Stage
  moved q s m st = record { stations = q.stations; limit = q.limit; memory = m; stages = slice_set q.stages s st }

  abbrev pub carried : State Memory Stage → ℕ → Row Memory Stage → Outcome Memory Stage
  carried q s (Ok (a, m, st)) = (Ok a, moved q s m st)
  carried q s (Err e) = (Err e, q)

  abbrev pub made : Result (Unit {0}) Refusal → State Memory Stage → Result (State Memory Stage) Refusal
  made (Ok u) q = Ok q
  made (Err e) q = Err e

-- idle is the step of a station that has no call
module _ {Memory Stage : Type 0} (idle : Stage) where
  -- where station s's call stands
  abbrev pub stage_of : State Memory Stage → ℕ → Stage
  stage_of q s = slice_index_or q.stages s idle

  abbrev pub turned : (Memory → ℕ → Stage → Row Memory Stage) → State Memory Stage → ℕ → Outcome Memory Stage
  turned step q s = if nat_lt s q.stations then carried q s (step q.memory q.limit (stage_of q s)) else (Err NoStation, q)

  module _ (is_idle : Stage → Bool) where
    -- index i of n; an index that is outside is added from step `first`
    abbrev pub add_begun : ℕ → Bool → Stage → State Memory Stage → ℕ → ℕ → Outcome Memory Stage
    add_begun n outside first q s i =
        if nat_lt s q.stations then
        (if is_idle (stage_of q s) then
        (if nat_lt i n then
        (if outside then (Ok Going, moved q s q.memory first) else (Err NotOutside, q))
        else (Err NoIndex, q))
        else (Err Busy, q))
        else (Err NoStation, q)

    abbrev pub take_begun : Stage → State Memory Stage → ℕ → Outcome Memory Stage
    take_begun first q s =
        if nat_lt s q.stations then
        (if is_idle (stage_of q s) then (Ok Going, moved q s q.memory first) else (Err Busy, q))
        else (Err NoStation, q)

pub record Steps (Memory Stage : Type 0) : Type 0 where
  -- the step of a station that has no call
  pub idle : Stage
  pub is_idle : Stage → Bool
  -- the first step of an add of an index, and of a take
  pub adding : ℕ → Stage
  pub taking : Stage
  -- the station is still to write index i
  pub is_adding : ℕ → Stage → Bool
  -- how many indices there are
  pub places : Memory → ℕ
  -- how many slots there are, and whether index i is in the ring at slot j
  pub slots : Memory → ℕ
  pub is_there : Memory → ℕ → ℕ → Bool
  -- the row of a step, with the ticket limit
  pub step : Memory → ℕ → Stage → Row Memory Stage
  -- the memory of a new ring of n places
  pub empty : ℕ → Memory
  pub full : ℕ → Memory

module _ {Memory Stage : Type 0} (t : Steps Memory Stage) where
  -- the row of step st, at ticket limit l and memory m, tells r and leaves m'
  abbrev pub Tells : ℕ → Memory → Stage → Result (Progress × Stage) Refusal → Memory → Type 0
  Tells l m st r m' = (r, m') ≡ told (t.step m l st) m

  -- so it is at any limit
  abbrev pub TellsAlways : Memory → Stage → Result (Progress × Stage) Refusal → Memory → Type 0
  TellsAlways m st r m' = (l : ℕ) → Tells l m st r m'

  -- station s is still to write index i
  abbrev pub writes : State Memory Stage → ℕ → ℕ → Bool
  writes q i s = t.is_adding i (stage_of t.idle q s)

  -- index i is in no slot, and no station is to write it
  abbrev pub is_outside : State Memory Stage → ℕ → Bool
  is_outside q i = not (any_below (t.slots q.memory) (t.is_there q.memory i)) && not (any_below q.stations (writes q i))

  abbrev pub adds : State Memory Stage → ℕ → ℕ → Outcome Memory Stage
  adds q s i = add_begun t.idle t.is_idle (t.places q.memory) (is_outside q i) (t.adding i) q s i

  abbrev pub takes : State Memory Stage → ℕ → Outcome Memory Stage
  takes = take_begun t.idle t.is_idle t.taking

  abbrev pub turns : State Memory Stage → ℕ → Outcome Memory Stage
  turns = turned t.idle t.step

  -- every station is idle
  abbrev pub opened : ℕ → ℕ → Memory → State Memory Stage
  opened k l m = record { stations = k; limit = l; memory = m; stages = replicate 64 t.idle }

  abbrev pub empty : ℕ → ℕ → ℕ → Result (State Memory Stage) Refusal
  empty n k l = made (make_checked n k l) (opened k l (t.empty n))

  abbrev pub full : ℕ → ℕ → ℕ → Result (State Memory Stage) Refusal
  full n k l = made (make_checked n k l) (opened k l (t.full n))
