-- The book of a day: the same calls once more, told by puts and takes. It knows nothing of stages, nor of how
-- the rings work. Each put or take goes by its number: how many calls the day had had when its begin came.
--
-- End              how a put or take ended
-- Book             all of a day's puts and takes
-- noted, book      the book with one call more, and of a whole day
--
-- Assumes nothing.
use Rattle.std.specs.Prelude.{ℕ, ◌+◌, Bool, true, false, if◌then◌else◌, List, Some, None, Ok, Err, Option, Result}
use Rattle.ring.specs.declared.Answer.{Answer}
use Rattle.ring.specs.declared.Answer.TheVariants.{Going, PutDone, PutFull, TakeDone, TakeEmpty}
use Rattle.ring.specs.declared.Refusal.{Refusal}
use Rattle.ring.specs.Cells.{put}
use Rattle.days.specs.Day.{Call, begin_put, begin_take, turn, Motion, stayed, entered, left, Day, opened, on, clock}

pub record End (R : Type 0) : Type 0 where
  -- how many calls the day had had then, the ending turn counted
  pub when : ℕ
  pub answer : Answer
  -- the rack then
  pub rack : List R

pub record Book (R : Type 0) : Type 0 where
  -- the begin that was accepted
  pub begun : ℕ → Option (Call R)
  -- the ticket under which the put's pair has entered the waiting ring, or the take's pair has left it
  pub ticket : ℕ → Option ℕ
  pub ended : ℕ → Option (End R)
  -- the put or take that each station has in progress
  pub current : ℕ → Option ℕ
  -- the accepted turns that it has had with no accepted turn of another station between them
  pub lone : ℕ → ℕ

-- the tickets, after a turn of number b
abbrev pub moved : Motion → ℕ → (ℕ → Option ℕ) → ℕ → Option ℕ
moved stayed b tickets = tickets
moved (entered t) b tickets = put tickets b (Some t)
moved (left t) b tickets = put tickets b (Some t)

abbrev goes_on : Answer → Bool
goes_on Going = true
goes_on PutDone = false
goes_on PutFull = false
goes_on TakeDone = false
goes_on TakeEmpty = false

module _ {R : Type 0} where
  abbrev pub blank : Book R
  blank = record { begun = λ b. None; ticket = λ b. None; ended = λ b. None; current = λ s. None; lone = λ s. 0 }

  -- station s has begun c, as the day's call number b
  abbrev pub begins : ℕ → ℕ → Call R → Book R → Book R
  begins b s c β = record { begun = put β.begun b (Some c); ticket = β.ticket; ended = β.ended; current = put β.current s (Some b); lone = put β.lone s 0 }

  -- an accepted turn of station s, for its put or take number b, as the day's call number `at`
  abbrev pub turns : ℕ → ℕ → ℕ → Answer → Motion → List R → Book R → Book R
  turns at s b a mo rack β = record {
    begun = β.begun;
    ticket = moved mo b β.ticket;
    ended = if goes_on a then β.ended else put β.ended b (Some (record { when = at + 1; answer = a; rack = rack }));
    current = if goes_on a then β.current else put β.current s None;
    lone = put (λ r. 0) s (β.lone s + 1);
  }

  abbrev turns_of : ℕ → ℕ → Option ℕ → Answer → Motion → List R → Book R → Book R
  turns_of at s (Some b) a mo rack β = turns at s b a mo rack β
  turns_of at s None a mo rack β = β

  -- a call as the day's call number `at`, with the rack after it
  abbrev pub noted : ℕ → Call R → Result Answer Refusal → Motion → List R → Book R → Book R
  noted at c (Err e) mo rack β = β
  noted at (begin_put s r) (Ok a) mo rack β = begins at s (begin_put s r) β
  noted at (begin_take s) (Ok a) mo rack β = begins at s (begin_take s) β
  noted at (turn s) (Ok a) mo rack β = turns_of at s (β.current s) a mo rack β

  abbrev pub book : Day R → Book R
  book (opened σ) = blank
  book (on d i) = noted (clock d) i.call i.answer i.motion i.scene.rack (book d)
