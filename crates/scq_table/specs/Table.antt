-- The scalable circular queue: its words, its counters and its step table.
--
-- For n places there are 2n slots. A ticket has a cycle (ticket ÷ 2n) and a slot (ticket mod 2n). A
-- word has a cycle, a safe bit and an index: it is 4n × cycle + 2n × safe + index. The index 2n − 1,
-- bottom, says that no index is there.
--
-- Memory           what the stations share: Head, Tail, Threshold and the words
-- State            a ring: its sizes, the memory, and where each station's call stands
-- step             one row of the table: the answer, the memory after, and the station's next step
-- empty, full      a new ring
-- adds, takes      what a begin-add and a begin-take do
-- turns            what a turn does
-- steps            all that the table says, as one record
--
-- Assumes nothing.
use Rattle.std.specs.Prelude.{ℕ, ◌+◌, ◌-◌, ◌*◌, ◌/◌, ◌%◌, Bool, true, false, if◌then◌else◌, ◌&&◌, List, map, ℤ, pos, negsuc, ◌-ℤ◌, Some, None, Ok, Err, Result, ◌==◌, bit_or, int_le, int_lt, nat_le, nat_lt, slice_index, slice_set}
use Rattle.std.specs.List.{range_with_len}
use Rattle.ring.specs.declared.Progress.TheVariants.{Going, Added, Taken}
use Rattle.ring.specs.declared.Refusal.{Refusal}
use Rattle.ring.specs.declared.Refusal.TheVariants.{NoCall, AtLimit}
use Rattle.ring.specs.Tables as tables
use Rattle.ring.specs.Tables.{stage_of, Steps}
use Rattle.scq_table.specs.declared.Stage.{Stage}
use Rattle.scq_table.specs.declared.Stage.TheVariants.{Idle, A1, A2, A3, A4, A5, A6, T1, T2, T3, T4, T5, T6, T7, T8, T9, T10, T11}

-- tickets

abbrev pub cycle : ℕ → ℕ → ℕ
cycle n t = t / (2 * n)

abbrev pub slot : ℕ → ℕ → ℕ
slot n t = t % (2 * n)

-- words

abbrev pub word_cycle : ℕ → ℕ → ℕ
word_cycle n w = w / (4 * n)

-- 1, or 0 where a take has found an older pair in its ticket's way
abbrev pub safe : ℕ → ℕ → ℕ
safe n w = w / (2 * n) % 2

abbrev pub index : ℕ → ℕ → ℕ
index n w = w % (2 * n)

-- the index that says that no index is there
abbrev pub bottom : ℕ → ℕ
bottom n = 2 * n - 1

-- the word of a cycle, a safe bit and an index
abbrev pub join : ℕ → ℕ → ℕ → ℕ → ℕ
join n c s i = 4 * n * c + 2 * n * s + i

-- the highest Threshold
abbrev pub top : ℕ → ℤ
top n = pos (3 * n - 1)

abbrev pub int_equal : ℤ → ℤ → Bool
int_equal (pos a) (pos b) = a == b
int_equal (pos a) (negsuc b) = false
int_equal (negsuc a) (pos b) = false
int_equal (negsuc a) (negsuc b) = a == b

pub record Memory : Type 0 where
  pub places : ℕ
  -- the ticket of the next take
  pub head : ℕ
  -- the ticket of the next add
  pub tail : ℕ
  -- how many tickets takes may still fail at before there is nothing to take
  pub threshold : ℤ
  -- a word for each slot, and more that are never used: the table has room for 128
  pub words : List ℕ

-- the word at a ticket's slot
abbrev pub word : Memory → ℕ → ℕ
word m t = slice_index m.words (slot m.places t)

-- memory operations that write

abbrev pub with_tail : Memory → ℕ → Memory
with_tail m t = record { places = m.places; head = m.head; tail = t; threshold = m.threshold; words = m.words }

abbrev pub with_head : Memory → ℕ → Memory
with_head m h = record { places = m.places; head = h; tail = m.tail; threshold = m.threshold; words = m.words }

abbrev pub with_threshold : Memory → ℤ → Memory
with_threshold m z = record { places = m.places; head = m.head; tail = m.tail; threshold = z; words = m.words }

abbrev pub with_word : Memory → ℕ → ℕ → Memory
with_word m t w = record { places = m.places; head = m.head; tail = m.tail; threshold = m.threshold; words = slice_set m.words (slot m.places t) w }

-- the step table

-- the answer of a turn, the memory after it and the station's next step, or a refusal
abbrev pub Row : Type 0
Row = tables.Row Memory Stage

-- A2, the word e loaded at ticket t: A1 if its cycle is not below t's or its index is not bottom;
-- otherwise A4 if it is safe, A3 if not
abbrev pub a2 : Memory → ℕ → ℕ → ℕ → Row
a2 m i t e =
    if nat_lt (word_cycle m.places e) (cycle m.places t) && index m.places e == bottom m.places then
    (if safe m.places e == 1 then Ok (Going, m, A4 i t e) else Ok (Going, m, A3 i t e))
    else Ok (Going, m, A1 i)

-- T3, the word e loaded at ticket h: of h's cycle, T4; of a lower one, T5; of a higher one, T6
abbrev pub t3 : Memory → ℕ → ℕ → Row
t3 m h e =
    if word_cycle m.places e == cycle m.places h then Ok (Going, m, T4 h e)
    else if nat_lt (word_cycle m.places e) (cycle m.places h) then Ok (Going, m, T5 h e)
    else Ok (Going, m, T6 h)

-- what T5 writes over the word e at ticket h: an empty word comes to h's cycle, and a word with an
-- older pair keeps it and is safe no more
abbrev pub spoilt : ℕ → ℕ → ℕ → ℕ
spoilt n h e = if index n e == bottom n then join n (cycle n h) (safe n e) (bottom n)
    else join n (word_cycle n e) 0 (index n e)

-- l is the ticket limit
abbrev pub step : Memory → ℕ → Stage → Row
step m l Idle = Err NoCall
step m l (A1 i) = if m.tail == l then Err AtLimit else Ok (Going, with_tail m (m.tail + 1), A2 i m.tail)
step m l (A2 i t) = a2 m i t (word m t)
step m l (A3 i t e) = if nat_le m.head t then Ok (Going, m, A4 i t e) else Ok (Going, m, A1 i)
step m l (A4 i t e) = if word m t == e then Ok (Going, with_word m t (join m.places (cycle m.places t) 1 i), A5 t)
    else Ok (Going, m, A2 i t)
step m l (A5 t) = if int_equal m.threshold (top m.places) then Ok (Added, m, Idle) else Ok (Going, m, A6 t)
step m l (A6 t) = Ok (Added, with_threshold m (top m.places), Idle)
step m l T1 = if int_lt m.threshold (pos 0) then Ok (Taken None, m, Idle) else Ok (Going, m, T2)
step m l T2 = if m.head == l then Err AtLimit else Ok (Going, with_head m (m.head + 1), T3 m.head)
step m l (T3 h) = t3 m h (word m h)
step m l (T4 h e) = Ok (Taken (Some (index m.places e)), with_word m h (bit_or (word m h) (bottom m.places)), Idle)
step m l (T5 h e) = if word m h == e then Ok (Going, with_word m h (spoilt m.places h e), T6 h)
    else Ok (Going, m, T3 h)
step m l (T6 h) = if nat_le m.tail (h + 1) then Ok (Going, m, T7 h m.tail (h + 1)) else Ok (Going, m, T11 h)
step m l (T7 h u v) = if m.tail == u then Ok (Going, with_tail m v, T10 h) else Ok (Going, m, T8 h)
step m l (T8 h) = Ok (Going, m, T9 h m.head)
step m l (T9 h v) = if nat_le v m.tail then Ok (Going, m, T10 h) else Ok (Going, m, T7 h m.tail v)
step m l (T10 h) = Ok (Taken None, with_threshold m (m.threshold -ℤ pos 1), Idle)
step m l (T11 h) = if int_le m.threshold (pos 0) then Ok (Taken None, with_threshold m (m.threshold -ℤ pos 1), Idle)
    else Ok (Going, with_threshold m (m.threshold -ℤ pos 1), T2)

-- rings

abbrev pub State : Type 0
State = tables.State Memory Stage

abbrev pub Outcome : Type 0
Outcome = tables.Outcome Memory Stage

-- where station s's call stands
abbrev pub stage : State → ℕ → Stage
stage = stage_of Idle

-- begins

abbrev pub is_idle : Stage → Bool
is_idle Idle = true
is_idle (A1 i) = false
is_idle (A2 i t) = false
is_idle (A3 i t e) = false
is_idle (A4 i t e) = false
is_idle (A5 t) = false
is_idle (A6 t) = false
is_idle T1 = false
is_idle T2 = false
is_idle (T3 h) = false
is_idle (T4 h e) = false
is_idle (T5 h e) = false
is_idle (T6 h) = false
is_idle (T7 h u v) = false
is_idle (T8 h) = false
is_idle (T9 h v) = false
is_idle (T10 h) = false
is_idle (T11 h) = false

-- the station is still to write index i
abbrev pub is_adding : ℕ → Stage → Bool
is_adding i Idle = false
is_adding i (A1 j) = j == i
is_adding i (A2 j t) = j == i
is_adding i (A3 j t e) = j == i
is_adding i (A4 j t e) = j == i
is_adding i (A5 t) = false
is_adding i (A6 t) = false
is_adding i T1 = false
is_adding i T2 = false
is_adding i (T3 h) = false
is_adding i (T4 h e) = false
is_adding i (T5 h e) = false
is_adding i (T6 h) = false
is_adding i (T7 h u v) = false
is_adding i (T8 h) = false
is_adding i (T9 h v) = false
is_adding i (T10 h) = false
is_adding i (T11 h) = false

-- the word at slot j has index i
abbrev pub is_there : Memory → ℕ → ℕ → Bool
is_there m i j = index m.places (slice_index m.words j) == i

-- makes

-- the words of a new ring: of cycle 1, safe and with index j at slot j below c; the others of cycle 0,
-- safe and empty
abbrev pub word_of_new : ℕ → ℕ → ℕ → ℕ
word_of_new n c j = if nat_lt j c then join n 1 1 j else join n 0 1 (bottom n)

unfoldable pub new_words : ℕ → ℕ → List ℕ
new_words n c = map (word_of_new n c) (range_with_len 0 128)

-- all that the table says

abbrev pub steps : Steps Memory Stage
steps = record {
  idle = Idle;
  is_idle = is_idle;
  adding = A1;
  taking = T1;
  is_adding = is_adding;
  places = λ m. m.places;
  slots = λ m. 2 * m.places;
  is_there = is_there;
  step = step;
  empty = λ n. record { places = n; head = 2 * n; tail = 2 * n; threshold = negsuc 0; words = new_words n 0 };
  full = λ n. record { places = n; head = 2 * n; tail = 3 * n; threshold = top n; words = new_words n n };
}

-- a new ring: the first ticket of cycle 1 is the next to be taken
abbrev pub new_ring : ℕ → ℕ → ℕ → ℕ → ℤ → List ℕ → State
new_ring n k l t z ws = tables.opened steps k l (record { places = n; head = 2 * n; tail = t; threshold = z; words = ws })

-- calls

abbrev pub empty : ℕ → ℕ → ℕ → Result State Refusal
empty = tables.empty steps

abbrev pub full : ℕ → ℕ → ℕ → Result State Refusal
full = tables.full steps

abbrev pub is_outside : State → ℕ → Bool
is_outside = tables.is_outside steps

abbrev pub adds : State → ℕ → ℕ → Outcome
adds = tables.adds steps

abbrev pub takes : State → ℕ → Outcome
takes = tables.takes steps

abbrev pub turns : State → ℕ → Outcome
turns = tables.turns steps
