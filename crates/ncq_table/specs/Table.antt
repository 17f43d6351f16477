-- The naive circular queue: its words, its counters and its step table.
--
-- There are n slots. A ticket has a cycle (ticket ÷ n) and a slot (ticket mod n). A word is
-- n × cycle + index.
--
-- Memory           what the stations share: Head, Tail and the words
-- State            a ring: its sizes, the memory, and where each station's call stands
-- step             one row of the table: the answer, the memory after, and the station's next step
-- empty, full      a new ring
-- adds, takes      what a begin-add and a begin-take do
-- turns            what a turn does
-- steps            all that the table says, as one record
--
-- Assumes nothing.
use Rattle.std.specs.Prelude.{ℕ, ◌+◌, ◌*◌, ◌/◌, ◌%◌, Bool, true, false, if◌then◌else◌, ◌&&◌, List, map, replicate, Some, None, Ok, Err, Result, ◌==◌, nat_le, nat_lt, slice_index, slice_set}
use Rattle.std.specs.List.{range_with_len}
use Rattle.ring.specs.declared.Progress.TheVariants.{Going, Added, Taken}
use Rattle.ring.specs.declared.Refusal.{Refusal}
use Rattle.ring.specs.declared.Refusal.TheVariants.{NoCall, AtLimit}
use Rattle.ring.specs.Tables as tables
use Rattle.ring.specs.Tables.{stage_of, Steps}
use Rattle.ncq_table.specs.declared.Stage.{Stage}
use Rattle.ncq_table.specs.declared.Stage.TheVariants.{Idle, N1, N2, N3, N4, N5, N6, N7, N8}

-- tickets and words

abbrev pub cycle : ℕ → ℕ → ℕ
cycle n x = x / n

abbrev pub slot : ℕ → ℕ → ℕ
slot n t = t % n

-- the index in a word
abbrev pub index : ℕ → ℕ → ℕ
index n w = w % n

-- the word of a cycle and an index
abbrev pub join : ℕ → ℕ → ℕ → ℕ
join n c i = n * c + i

pub record Memory : Type 0 where
  pub places : ℕ
  -- the ticket of the next take
  pub head : ℕ
  -- the ticket of the next add; while an add has written its word and not moved Tail, the ticket of that word
  pub tail : ℕ
  -- a word for each slot, and more that are never used: the table has room for 64
  pub words : List ℕ

-- the word at a ticket's slot
abbrev pub word : Memory → ℕ → ℕ
word m t = slice_index m.words (slot m.places t)

-- memory operations that write

-- Tail from t to t + 1, if it is t
abbrev pub move_tail : Memory → ℕ → Memory
move_tail m t = if m.tail == t then record { places = m.places; head = m.head; tail = t + 1; words = m.words } else m

abbrev pub with_head : Memory → ℕ → Memory
with_head m h = record { places = m.places; head = h; tail = m.tail; words = m.words }

abbrev pub with_word : Memory → ℕ → ℕ → Memory
with_word m t w = record { places = m.places; head = m.head; tail = m.tail; words = slice_set m.words (slot m.places t) w }

-- the step table

-- the answer of a turn, the memory after it and the station's next step, or a refusal
abbrev pub Row : Type 0
Row = tables.Row Memory Stage

-- N2, the word e loaded at ticket t: of t's cycle, N3; of the cycle before, N4; otherwise N1
abbrev pub n2 : Memory → ℕ → ℕ → ℕ → Row
n2 m i t e =
    if cycle m.places e == cycle m.places t then Ok (Going, m, N3 i t)
    else if cycle m.places e + 1 == cycle m.places t then Ok (Going, m, N4 i t e)
    else Ok (Going, m, N1 i)

-- N7, the word e loaded at ticket h: of h's cycle, N8; of the cycle before, none; otherwise N6
abbrev pub n7 : Memory → ℕ → ℕ → Row
n7 m h e =
    if cycle m.places e == cycle m.places h then Ok (Going, m, N8 h e)
    else if cycle m.places e + 1 == cycle m.places h then Ok (Taken None, m, Idle)
    else Ok (Going, m, N6)

-- l is the ticket limit
abbrev pub step : Memory → ℕ → Stage → Row
step m l Idle = Err NoCall
step m l (N1 i) = if m.tail == l then Err AtLimit else Ok (Going, m, N2 i m.tail)
step m l (N2 i t) = n2 m i t (word m t)
step m l (N3 i t) = Ok (Going, move_tail m t, N1 i)
step m l (N4 i t e) = if word m t == e then Ok (Going, with_word m t (join m.places (cycle m.places t) i), N5 t)
    else Ok (Going, m, N1 i)
step m l (N5 t) = Ok (Added, move_tail m t, Idle)
step m l N6 = if m.head == l then Err AtLimit else Ok (Going, m, N7 m.head)
step m l (N7 h) = n7 m h (word m h)
step m l (N8 h e) = if m.head == h then Ok (Taken (Some (index m.places e)), with_head m (h + 1), Idle)
    else Ok (Going, m, N6)

-- rings

abbrev pub State : Type 0
State = tables.State Memory Stage

abbrev pub Outcome : Type 0
Outcome = tables.Outcome Memory Stage

-- where station s's call stands
abbrev pub stage : State → ℕ → Stage
stage = stage_of Idle

-- begins

abbrev pub is_idle : Stage → Bool
is_idle Idle = true
is_idle (N1 i) = false
is_idle (N2 i t) = false
is_idle (N3 i t) = false
is_idle (N4 i t e) = false
is_idle (N5 t) = false
is_idle N6 = false
is_idle (N7 h) = false
is_idle (N8 h e) = false

-- the station is still to write index i
abbrev pub is_adding : ℕ → Stage → Bool
is_adding i Idle = false
is_adding i (N1 j) = j == i
is_adding i (N2 j t) = j == i
is_adding i (N3 j t) = j == i
is_adding i (N4 j t e) = j == i
is_adding i (N5 t) = false
is_adding i N6 = false
is_adding i (N7 h) = false
is_adding i (N8 h e) = false

-- the word at slot j has index i, and Head has not passed the word's ticket
abbrev pub is_there : Memory → ℕ → ℕ → Bool
is_there m i j =
    (index m.places (slice_index m.words j) == i) &&
    nat_le m.head (join m.places (cycle m.places (slice_index m.words j)) j)

-- makes

-- the words of a full ring: of cycle 0 and index j at slot j
unfoldable pub full_words : ℕ → List ℕ
full_words n = map (λ j. if nat_lt j n then join n 0 j else 0) (range_with_len 0 64)

-- all that the table says

abbrev pub steps : Steps Memory Stage
steps = record {
  idle = Idle;
  is_idle = is_idle;
  adding = N1;
  taking = N6;
  is_adding = is_adding;
  places = λ m. m.places;
  slots = λ m. m.places;
  is_there = is_there;
  step = step;
  empty = λ n. record { places = n; head = n; tail = n; words = replicate 64 0 };
  full = λ n. record { places = n; head = 0; tail = n; words = full_words n };
}

-- a new ring, with the next take at ticket h
abbrev pub new_ring : ℕ → ℕ → ℕ → ℕ → List ℕ → State
new_ring n k l h ws = tables.opened steps k l (record { places = n; head = h; tail = n; words = ws })

-- calls

abbrev pub empty : ℕ → ℕ → ℕ → Result State Refusal
empty = tables.empty steps

abbrev pub full : ℕ → ℕ → ℕ → Result State Refusal
full = tables.full steps

abbrev pub is_outside : State → ℕ → Bool
is_outside = tables.is_outside steps

abbrev pub adds : State → ℕ → ℕ → Outcome
adds = tables.adds steps

abbrev pub takes : State → ℕ → Outcome
takes = tables.takes steps

abbrev pub turns : State → ℕ → Outcome
turns = tables.turns steps
