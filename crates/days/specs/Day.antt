-- A day: the calls that came to one hub since it was made, each with its answer and with what there was after it.
--
-- Scene            what there is at an instant
-- Call             a begin-put, a begin-take or a turn
-- Motion           what a call did to the pairs of the waiting ring
-- Instant          a call, its answer, and the scene after it
-- Day              a newly made hub, and the instants since
-- scene, clock     the scene at the end of a day, and how many calls the day has had
-- Opening          a newly made hub, with whatever lies in its rack
-- Follows          what may come of a call: the two rings do what a ring may do
-- IsDay            a day that begins with an opening, and on which each instant follows from the one before
--
-- Assumes nothing.
use Rattle.std.specs.Prelude.{◌≡◌, ℕ, ◌+◌, ◌<◌, ◌≤◌, false, ◌⊎◌, List, length, None, Ok, Err, Result, ◌≢◌, slice_set}
use Rattle.ring.specs.declared.Answer.{Answer}
use Rattle.ring.specs.declared.Answer.TheVariants as answer
use Rattle.ring.specs.declared.Progress.{Progress}
use Rattle.ring.specs.declared.Refusal.{Refusal}
use Rattle.ring.specs.Numbers.{refusal_number}
use Rattle.ring.specs.Model.{adding, seeking, Model}
use Rattle.ring.specs.Meaning.{New, NoPairs, AllPairs, SamePairs, Begun, Enters, Leaves, MayTurn, AtLimit}
use Rattle.days.specs.declared.Stage.{Stage}
use Rattle.days.specs.declared.Stage.TheVariants.{Idle, TakeFree, Store, AddWaiting, TakeWaiting, Fetch, AddFree}
use Rattle.days.specs.Racks.{copied, hand}
use Rattle.days.specs.Outcome.{told}

-- what there is at an instant
pub record Scene (R : Type 0) : Type 0 where
  -- what the two rings stand for
  pub free : Model
  pub waiting : Model
  -- where each station's call stands
  pub stage : ℕ → Stage
  pub rack : List R

pub data Call (R : Type 0) : Type 0 where
  begin_put : (s : ℕ) (r : R) → Call R
  begin_take : (s : ℕ) → Call R
  turn : (s : ℕ) → Call R

-- what a call did to the pairs of the waiting ring: nothing, or the pair under ticket t has entered, or left
pub data Motion : Type 0 where
  stayed : Motion
  entered : (t : ℕ) → Motion
  left : (t : ℕ) → Motion

pub record Instant (R : Type 0) : Type 0 where
  pub call : Call R
  pub answer : Result Answer Refusal
  pub motion : Motion
  pub scene : Scene R

pub data Day (R : Type 0) : Type 0 where
  -- the hub has just been made, and the rack lies before it
  opened : Scene R → Day R
  -- one call more
  on : Day R → Instant R → Day R

module _ {R : Type 0} where
  abbrev pub scene : Day R → Scene R
  scene (opened σ) = σ
  scene (on d i) = i.scene

  abbrev pub clock : Day R → ℕ
  clock (opened σ) = 0
  clock (on d i) = clock d + 1

-- a newly made hub of n places and k stations: the free ring full, the waiting ring empty, no call in progress
pub record Opening {R : Type 0} (n k : ℕ) (σ : Scene R) : Type 0 where
  pub limit : ℕ
  pub free_new : New n k limit σ.free
  pub free_full : AllPairs σ.free
  pub waiting_new : New n k limit σ.waiting
  pub waiting_empty : NoPairs σ.waiting
  pub all_idle : (s : ℕ) → σ.stage s ≡ Idle
  pub rack_long : length σ.rack ≡ n + k

-- only station s's stage has changed, and to st
pub record StageTo {R : Type 0} (σ : Scene R) (s : ℕ) (st : Stage) (σ' : Scene R) : Type 0 where
  pub stage_now : σ'.stage s ≡ st
  pub stages_stay : (r : ℕ) → r ≢ s → σ'.stage r ≡ σ.stage r

-- why a begin of station s may be refused, with which number
pub data BeginRefused {R : Type 0} (k : ℕ) (σ : Scene R) (s : ℕ) (e : Refusal) : Type 0 where
  no_station : refusal_number e ≡ 5 → k ≤ s → BeginRefused k σ s e
  busy : refusal_number e ≡ 6 → s < k → σ.stage s ≢ Idle → BeginRefused k σ s e

-- why a turn of station s may be refused, with which number
pub data TurnRefused {R : Type 0} (k : ℕ) (σ : Scene R) (s : ℕ) (e : Refusal) : Type 0 where
  no_station : refusal_number e ≡ 5 → k ≤ s → TurnRefused k σ s e
  no_call : refusal_number e ≡ 7 → s < k → σ.stage s ≡ Idle → TurnRefused k σ s e
  -- a ring's mark stands at the ticket limit
  free_at_limit : refusal_number e ≡ 8 → s < k → AtLimit σ.free (σ.free.doing s) → TurnRefused k σ s e
  waiting_at_limit : refusal_number e ≡ 8 → s < k → AtLimit σ.waiting (σ.waiting.doing s) → TurnRefused k σ s e

-- a call that brings a rack may be refused with 4; it then brought another rack than the day's
abbrev pub Refused : {R : Type 0} → ℕ → Scene R → Call R → Refusal → Type 0
Refused k σ (begin_put s r) e = (refusal_number e ≡ 4) ⊎ BeginRefused k σ s e
Refused k σ (begin_take s) e = BeginRefused k σ s e
Refused k σ (turn s) e = (refusal_number e ≡ 4) ⊎ TurnRefused k σ s e

-- a begin-put that is accepted copies its record into the hand, and begins a take of the free ring
pub record PutBegun {R : Type 0} (n k : ℕ) (σ : Scene R) (s : ℕ) (r : R) (a : Answer) (σ' : Scene R) : Type 0 where
  pub station : s < k
  pub was_idle : σ.stage s ≡ Idle
  pub going : a ≡ answer.Going
  pub free_begun : Begun σ.free s (seeking σ.free.take_mark None false) σ'.free
  pub waiting_same : σ'.waiting ≡ σ.waiting
  pub stages : StageTo σ s TakeFree σ'
  pub in_hand : σ'.rack ≡ slice_set σ.rack (hand n s) r

-- a begin-take that is accepted begins a take of the waiting ring
pub record TakeBegun {R : Type 0} (k : ℕ) (σ : Scene R) (s : ℕ) (a : Answer) (σ' : Scene R) : Type 0 where
  pub station : s < k
  pub was_idle : σ.stage s ≡ Idle
  pub going : a ≡ answer.Going
  pub waiting_begun : Begun σ.waiting s (seeking σ.waiting.take_mark None false) σ'.waiting
  pub free_same : σ'.free ≡ σ.free
  pub stages : StageTo σ s TakeWaiting σ'
  pub rack_same : σ'.rack ≡ σ.rack

-- the pairs of a ring before and after, by what happened to them
abbrev pub Moved : Model → Motion → Model → Type 0
Moved m stayed m' = SamePairs m m'
Moved m (entered t) m' = (i : ℕ) × Enters m t i m'
Moved m (left t) m' = (i : ℕ) × Leaves m t i m'

-- a turn that is accepted is one of the free ring, one of the waiting ring, the store turn or the fetch turn
pub record FreeTurned {R : Type 0} (σ : Scene R) (s : ℕ) (p : Progress) (a : Answer) (mo : Motion) (σ' : Scene R) : Type 0 where
  pub ring_turned : MayTurn σ.free s p σ'.free
  pub answered : a ≡ (told (σ.stage s) p).0
  pub stages : StageTo σ s (told (σ.stage s) p).1 σ'
  pub waiting_same : σ'.waiting ≡ σ.waiting
  pub rack_same : σ'.rack ≡ σ.rack
  pub none_moved : mo ≡ stayed

pub record WaitingTurned {R : Type 0} (σ : Scene R) (s : ℕ) (p : Progress) (a : Answer) (mo : Motion) (σ' : Scene R) : Type 0 where
  pub ring_turned : MayTurn σ.waiting s p σ'.waiting
  pub answered : a ≡ (told (σ.stage s) p).0
  pub stages : StageTo σ s (told (σ.stage s) p).1 σ'
  pub free_same : σ'.free ≡ σ.free
  pub rack_same : σ'.rack ≡ σ.rack
  pub pairs : Moved σ.waiting mo σ'.waiting

pub record Stored {R : Type 0} (n : ℕ) (σ : Scene R) (s i : ℕ) (a : Answer) (mo : Motion) (σ' : Scene R) : Type 0 where
  pub waiting_begun : Begun σ.waiting s (adding i σ.waiting.add_mark) σ'.waiting
  pub answered : a ≡ answer.Going
  pub stages : StageTo σ s AddWaiting σ'
  pub free_same : σ'.free ≡ σ.free
  pub in_place : σ'.rack ≡ copied σ.rack (hand n s) i
  pub none_moved : mo ≡ stayed

pub record Fetched {R : Type 0} (n : ℕ) (σ : Scene R) (s i : ℕ) (a : Answer) (mo : Motion) (σ' : Scene R) : Type 0 where
  pub free_begun : Begun σ.free s (adding i σ.free.add_mark) σ'.free
  pub answered : a ≡ answer.Going
  pub stages : StageTo σ s AddFree σ'
  pub waiting_same : σ'.waiting ≡ σ.waiting
  pub in_hand : σ'.rack ≡ copied σ.rack i (hand n s)
  pub none_moved : mo ≡ stayed

abbrev pub TurnedAt : {R : Type 0} → ℕ → Scene R → ℕ → Answer → Motion → Scene R → Stage → Type 0
TurnedAt n σ s a mo σ' Idle = ⊥
TurnedAt n σ s a mo σ' TakeFree = (p : Progress) × FreeTurned σ s p a mo σ'
TurnedAt n σ s a mo σ' (Store i) = Stored n σ s i a mo σ'
TurnedAt n σ s a mo σ' AddWaiting = (p : Progress) × WaitingTurned σ s p a mo σ'
TurnedAt n σ s a mo σ' TakeWaiting = (p : Progress) × WaitingTurned σ s p a mo σ'
TurnedAt n σ s a mo σ' (Fetch i) = Fetched n σ s i a mo σ'
TurnedAt n σ s a mo σ' AddFree = (p : Progress) × FreeTurned σ s p a mo σ'

module _ {R : Type 0} (n k : ℕ) where
  abbrev pub Follows : Scene R → Call R → Result Answer Refusal → Motion → Scene R → Type 0
  Follows σ c (Err e) mo σ' = Refused k σ c e × (mo ≡ stayed) × (σ' ≡ σ)
  Follows σ (begin_put s r) (Ok a) mo σ' = PutBegun n k σ s r a σ' × (mo ≡ stayed)
  Follows σ (begin_take s) (Ok a) mo σ' = TakeBegun k σ s a σ' × (mo ≡ stayed)
  Follows σ (turn s) (Ok a) mo σ' = (s < k) × TurnedAt n σ s a mo σ' (σ.stage s)

  abbrev pub IsDay : Day R → Type 0
  IsDay (opened σ) = Opening n k σ
  IsDay (on d i) = IsDay d × Follows (scene d) i.call i.answer i.motion i.scene
