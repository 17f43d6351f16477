-- The numbers of the answers and of the refusals, for all their cases.
--
-- answer_number    what a caller is told of an accepted call, 100 to 104
-- refusal_number   why a call was refused, 1 to 10
-- answer_of        the answer that a ring's progress is, where the ring is used by itself
--
-- Assumes nothing.
use Rattle.std.specs.Prelude.{ℕ, Some, None}
use Rattle.ring.specs.declared.Answer.{Answer}
use Rattle.ring.specs.declared.Answer.TheVariants as answer
use Rattle.ring.specs.declared.Refusal.{Refusal}
use Rattle.ring.specs.declared.Refusal.TheVariants.{Places, Stations, Limit, Rack, NoStation, Busy, NoCall, AtLimit, NoIndex, NotOutside}
use Rattle.ring.specs.declared.Progress.{Progress}
use Rattle.ring.specs.declared.Progress.TheVariants.{Going, Added, Taken}

abbrev pub answer_number : Answer → ℕ
answer_number answer.Going = 100
answer_number answer.PutDone = 101
answer_number answer.PutFull = 102
answer_number answer.TakeDone = 103
answer_number answer.TakeEmpty = 104

abbrev pub refusal_number : Refusal → ℕ
refusal_number Places = 1
refusal_number Stations = 2
refusal_number Limit = 3
refusal_number Rack = 4
refusal_number NoStation = 5
refusal_number Busy = 6
refusal_number NoCall = 7
refusal_number AtLimit = 8
refusal_number NoIndex = 9
refusal_number NotOutside = 10

abbrev pub answer_of : Progress → Answer
answer_of Going = answer.Going
answer_of Added = answer.PutDone
answer_of (Taken (Some i)) = answer.TakeDone
answer_of (Taken None) = answer.TakeEmpty
