-- Which models a state of the scalable circular queue stands for.
--
-- A word whose index is not bottom stands for a pair, under the one ticket that has the word's slot and
-- its cycle. The link to a model is a relation: the mark at which a call began is kept nowhere, and no
-- more is the number of its lone turns.
--
-- pair             the index under a ticket
-- Registers        what a station that stands at a step has in its registers, by what it is for
-- Fits             what those registers say of the memory
-- Does             what a station that stands at a step does in the model
-- Left             how many lone turns a call can still have, at the most
-- Shared           what holds of the memory alone
-- Dead             no add can use the ticket any more
-- Charged          every ticket from Head to Tail is charged to an index
-- Sound            what holds of the memory and of every station's registers
-- Stands           the state stands for the model
--
-- Assumes nothing.
use Rattle.std.specs.Prelude.{◌≡◌, ℕ, ◌+◌, ◌*◌, ◌<◌, ◌≤◌, Bool, true, false, if◌then◌else◌, not, ◌&&◌, ◌⊎◌, length, ℤ, pos, negsuc, ◌+ℤ◌, ◌≤ℤ◌, Some, None, Option, ◌==◌, ◌≢◌}
use Rattle.ring.specs.Model.{Doing, idle, adding, closing, seeking, Model}
use Rattle.ring.specs.Scans.{count_below}
use Rattle.ring.specs.Sizes.{Sized}
use Rattle.scq_table.specs.declared.Stage.{Stage}
use Rattle.scq_table.specs.declared.Stage.TheVariants.{Idle, A1, A2, A3, A4, A5, A6, T1, T2, T3, T4, T5, T6, T7, T8, T9, T10, T11}
use Rattle.scq_table.specs.Table.{cycle, slot, word_cycle, safe, index, bottom, top, Memory, word, State, stage}

-- the word at the ticket's slot is of the ticket's cycle
abbrev pub Current : Memory → ℕ → Type 0
Current m t = word_cycle m.places (word m t) ≡ cycle m.places t

-- no index is in the word
abbrev pub Blank : Memory → ℕ → Type 0
Blank m w = index m.places w ≡ bottom m.places

abbrev pub pair : Memory → ℕ → Option ℕ
pair m t =
    if word_cycle m.places (word m t) == cycle m.places t && not (index m.places (word m t) == bottom m.places)
    then Some (index m.places (word m t)) else None

-- what a station has in its registers, by what it is for
pub record Registers : Type 0 where
  -- the index that it is still to write
  pub writes : Option ℕ
  -- the ticket under which it is to write, with the index
  pub brings : Option (ℕ × ℕ)
  -- the ticket and the old word of the compare-and-set that would write it
  pub swaps : Option (ℕ × ℕ)
  -- the ticket whose pair it has written, where its add has not ended
  pub closes : Option ℕ
  -- the ticket that its take holds
  pub holds : Option ℕ
  -- that ticket, where it has not yet been given up
  pub live : Option ℕ
  -- that ticket, where Tail has not yet been seen past it
  pub behind : Option ℕ

abbrev nothing : Registers
nothing = record { writes = None; brings = None; swaps = None; closes = None; holds = None; live = None; behind = None }

abbrev adder : ℕ → Option (ℕ × ℕ) → Option (ℕ × ℕ) → Registers
adder i ticket swap = record { writes = Some i; brings = ticket; swaps = swap; closes = None; holds = None; live = None; behind = None }

abbrev closer : ℕ → Registers
closer t = record { writes = None; brings = None; swaps = None; closes = Some t; holds = None; live = None; behind = None }

abbrev taker : ℕ → Option ℕ → Option ℕ → Registers
taker h alive lag = record { writes = None; brings = None; swaps = None; closes = None; holds = Some h; live = alive; behind = lag }

abbrev registers : Stage → Registers
registers Idle = nothing
registers (A1 i) = adder i None None
registers (A2 i t) = adder i (Some (t, i)) None
registers (A3 i t e) = adder i (Some (t, i)) None
registers (A4 i t e) = adder i (Some (t, i)) (Some (t, e))
registers (A5 t) = closer t
registers (A6 t) = closer t
registers T1 = nothing
registers T2 = nothing
registers (T3 h) = taker h (Some h) (Some h)
registers (T4 h e) = taker h (Some h) (Some h)
registers (T5 h e) = taker h (Some h) (Some h)
registers (T6 h) = taker h None (Some h)
registers (T7 h u v) = taker h None (Some h)
registers (T8 h) = taker h None (Some h)
registers (T9 h v) = taker h None (Some h)
registers (T10 h) = taker h None None
registers (T11 h) = taker h None None

abbrev pub writes : Stage → Option ℕ
writes st = (registers st).writes

abbrev pub brings : Stage → Option (ℕ × ℕ)
brings st = (registers st).brings

abbrev pub swaps : Stage → Option (ℕ × ℕ)
swaps st = (registers st).swaps

abbrev pub closes : Stage → Option ℕ
closes st = (registers st).closes

abbrev pub holds : Stage → Option ℕ
holds st = (registers st).holds

abbrev pub live : Stage → Option ℕ
live st = (registers st).live

abbrev pub behind : Stage → Option ℕ
behind st = (registers st).behind

abbrev pub is_some : Option ℕ → Bool
is_some None = false
is_some (Some t) = true

-- what the registers say of the memory

-- the word that was loaded is empty, from before the ticket's cycle, and still there or overtaken
abbrev pub Seen : Memory → ℕ → ℕ → Type 0
Seen m t e = Blank m e × (word_cycle m.places e < cycle m.places t) ×
    ((e ≡ word m t) ⊎ (word_cycle m.places e < word_cycle m.places (word m t)))

-- no take has spoilt the slot for the ticket
abbrev pub Unspoilt : Memory → ℕ → Type 0
Unspoilt m h = Current m h → Blank m (word m h) → ⊥

abbrev pub Fits : Memory → Stage → Type 0
Fits m Idle = Unit {0}
Fits m (A1 i) = i < m.places
Fits m (A2 i t) = (i < m.places) × (t < m.tail)
Fits m (A3 i t e) = (i < m.places) × (t < m.tail) × Seen m t e
Fits m (A4 i t e) = (i < m.places) × (t < m.tail) × Seen m t e
Fits m (A5 t) = t < m.tail
Fits m (A6 t) = t < m.tail
Fits m T1 = Unit {0}
Fits m T2 = Unit {0}
Fits m (T3 h) = (h < m.head) × Unspoilt m h
Fits m (T4 h e) = (h < m.head) × Current m h × (index m.places (word m h) ≡ index m.places e) × (Blank m e → ⊥)
Fits m (T5 h e) = (h < m.head) × Unspoilt m h × (word_cycle m.places e < cycle m.places h)
Fits m (T6 h) = h < m.head
Fits m (T7 h u v) = (h < m.head) × (u ≤ v) × (h < v) × (v ≤ m.head)
Fits m (T8 h) = h < m.head
Fits m (T9 h v) = (h < m.head) × (h < v) × (v ≤ m.head)
Fits m (T10 h) = h < m.head
Fits m (T11 h) = h < m.head

abbrev AddsFrom : ℕ → ℕ → Doing → Type 0
AddsFrom i mark d = (f : ℕ) × (f ≤ mark) × (d ≡ adding i f)

abbrev SeeksFrom : ℕ → Option ℕ → Bool → Doing → Type 0
SeeksFrom mark held bare d = (f : ℕ) × (f ≤ mark) × (d ≡ seeking f held bare)

abbrev pub Does : Memory → Stage → Doing → Type 0
Does m Idle d = d ≡ idle
Does m (A1 i) d = AddsFrom i m.tail d
Does m (A2 i t) d = AddsFrom i t d
Does m (A3 i t e) d = AddsFrom i t d
Does m (A4 i t e) d = AddsFrom i t d
Does m (A5 t) d = d ≡ closing t
Does m (A6 t) d = d ≡ closing t
Does m T1 d = SeeksFrom m.head None false d
Does m T2 d = SeeksFrom m.head None false d
Does m (T3 h) d = SeeksFrom h (Some h) false d
Does m (T4 h e) d = SeeksFrom h (Some h) false d
Does m (T5 h e) d = SeeksFrom h (Some h) false d
Does m (T6 h) d = SeeksFrom h (Some h) false d
Does m (T7 h u v) d = SeeksFrom h (Some h) true d
Does m (T8 h) d = SeeksFrom h (Some h) true d
Does m (T9 h v) d = SeeksFrom h (Some h) true d
Does m (T10 h) d = SeeksFrom h (Some h) true d
Does m (T11 h) d = SeeksFrom h (Some h) false d

-- lone turns

-- how often a take may still lower Threshold before it ends
abbrev pub above_zero : ℤ → ℕ
above_zero (pos a) = a
above_zero (negsuc a) = 0

-- Tail comes to a ticket g, not below Head, at an empty slot, in r rounds of A1 to A3 at the most
abbrev pub Rounds : Memory → ℕ → Type 0
Rounds m r = (g : ℕ) × (m.head ≤ g) × (m.tail ≤ g) × Blank m (word m g) × (g + 1 ≤ m.tail + r)

abbrev pub InRounds : Memory → ℕ → ℕ → Type 0
InRounds m more b = (r : ℕ) × Rounds m r × (3 * r + more ≤ b)

-- the call ends within b lone turns
abbrev pub Left : Memory → Stage → ℕ → Type 0
Left m Idle b = Unit {0}
Left m (A1 i) b = InRounds m 3 b
Left m (A2 i t) b = ((m.head ≤ t) × Blank m (word m t) × (5 ≤ b)) ⊎ InRounds m 5 b
Left m (A3 i t e) b = ((m.head ≤ t) × (e ≡ word m t) × (4 ≤ b)) ⊎ (((t < m.head) × InRounds m 4 b) ⊎ InRounds m 7 b)
Left m (A4 i t e) b = ((e ≡ word m t) × (3 ≤ b)) ⊎ InRounds m 6 b
Left m (A5 t) b = 2 ≤ b
Left m (A6 t) b = 1 ≤ b
Left m T1 b = 5 * above_zero m.threshold + 7 ≤ b
Left m T2 b = 5 * above_zero m.threshold + 6 ≤ b
Left m (T3 h) b = 5 * above_zero m.threshold + 5 ≤ b
Left m (T4 h e) b = 1 ≤ b
Left m (T5 h e) b = ((e ≡ word m h) × (5 * above_zero m.threshold + 4 ≤ b)) ⊎ (5 * above_zero m.threshold + 6 ≤ b)
Left m (T6 h) b = 5 * above_zero m.threshold + 3 ≤ b
Left m (T7 h u v) b = ((u ≡ m.tail) × (2 ≤ b)) ⊎ (5 ≤ b)
Left m (T8 h) b = 4 ≤ b
Left m (T9 h v) b = 3 ≤ b
Left m (T10 h) b = 1 ≤ b
Left m (T11 h) b = 5 * above_zero m.threshold + 2 ≤ b

-- what the memory keeps

pub record Shared (m : Memory) : Type 0 where
  pub sized : Sized m.places
  -- the table has room for all slots
  pub room : 2 * m.places ≤ length m.words
  pub indices : (t : ℕ) → Blank m (word m t) ⊎ (index m.places (word m t) < m.places)
  -- a word's ticket has been handed out: with an index by Tail, without one by Head
  pub pairs_low : (t i : ℕ) → pair m t ≡ Some i → t < m.tail
  pub blanks_low : (t : ℕ) → Current m t → Blank m (word m t) → t < m.head
  pub one_pair : (t u i : ℕ) → pair m t ≡ Some i → pair m u ≡ Some i → t ≡ u
  pub threshold_high : m.threshold ≤ℤ top m.places

-- what the memory and the stations keep together; k stations, of which s stands at step `at s`

-- no add can come to write a pair under the ticket: its slot has a later cycle; or is empty in its
-- own cycle; or is unsafe, and each compare-and-set that would still succeed there is for a later ticket
pub data Dead (m : Memory) (at : ℕ → Stage) (t : ℕ) : Type 0 where
  overtaken : cycle m.places t < word_cycle m.places (word m t) → Dead m at t
  spoilt : Current m t → Blank m (word m t) → Dead m at t
  unsafe : word_cycle m.places (word m t) < cycle m.places t → safe m.places (word m t) ≡ 0 →
      ((s u : ℕ) → swaps (at s) ≡ Some (u, word m t) → slot m.places u ≡ slot m.places t → t < u) → Dead m at t

-- index i is under ticket t, or a station is to write it there
abbrev pub Item : Memory → (ℕ → Stage) → ℕ → ℕ → Type 0
Item m at t i = (pair m t ≡ Some i) ⊎ ((s : ℕ) × (brings (at s) ≡ Some (t, i)))

-- each ticket from Head to Tail has a number below 2n to itself: the index of its item; or, where
-- there is none because an add found an older pair at its slot, n more than the index of that pair.
-- So there are 2n of these tickets at the most.
pub record Charged (m : Memory) (at : ℕ → Stage) (charge : ℕ → ℕ) : Type 0 where
  pub low : (t : ℕ) → m.head ≤ t → t < m.tail → charge t < 2 * m.places
  pub apart : (t u : ℕ) → m.head ≤ t → t < m.tail → m.head ≤ u → u < m.tail → charge t ≡ charge u → t ≡ u
  pub to_item : (t i : ℕ) → m.head ≤ t → t < m.tail → Item m at t i → charge t ≡ i
  pub from_item : (t : ℕ) → m.head ≤ t → t < m.tail → charge t < m.places → Item m at t (charge t)
  -- since then that index has stayed where it was, or has come in under a later ticket
  pub from_older : (t u i : ℕ) → m.head ≤ t → t < m.tail → charge t ≡ m.places + i → Item m at u i →
      (t < u) ⊎ ((u < t) × (slot m.places u ≡ slot m.places t))

-- how many stations hold a ticket
abbrev pub holders : ℕ → (ℕ → Stage) → ℕ
holders k at = count_below k (λ s. is_some (holds (at s)))

pub record Sound (m : Memory) (k : ℕ) (at : ℕ → Stage) (charge : ℕ → ℕ) : Type 0 where
  pub shared : Shared m
  pub crew : k ≤ m.places
  -- only the k stations take part
  pub beyond : (s : ℕ) → k ≤ s → at s ≡ Idle
  pub fits : (s : ℕ) → Fits m (at s)
  -- no two stations are to write one index, and none that is in a pair
  pub one_writer : (s r i : ℕ) → writes (at s) ≡ Some i → writes (at r) ≡ Some i → s ≡ r
  pub not_both : (t s i : ℕ) → pair m t ≡ Some i → writes (at s) ≢ Some i
  -- no two stations hold one ticket
  pub one_holder : (s r t : ℕ) → holds (at s) ≡ Some t → holds (at r) ≡ Some t → s ≡ r
  -- a ticket that Head has passed is some station's, or no pair can be under it
  pub held_or_dead : (t : ℕ) → t < m.head → ((s : ℕ) × (live (at s) ≡ Some t)) ⊎ Dead m at t
  -- where Head has passed Tail, each ticket between is that of a station that is to move Tail past it
  pub caught_up : (t : ℕ) → m.tail ≤ t → t < m.head → (s : ℕ) × (behind (at s) ≡ Some t)
  pub charged : Charged m at charge
  -- a pair that Head has not passed is still to be closed, or Threshold allows for all the tickets
  -- before it and for each station that holds one
  pub credit : (t i : ℕ) → pair m t ≡ Some i → m.head ≤ t →
      ((s : ℕ) × (closes (at s) ≡ Some t)) ⊎ (pos (t + holders k at) ≤ℤ (pos m.head +ℤ m.threshold))

pub record Stands (q : State) (m : Model) : Type 0 where
  -- the numbers of the tickets from Head to Tail
  pub charge : ℕ → ℕ
  pub sound : Sound q.memory q.stations (stage q) charge
  pub table_room : q.stations ≤ length q.stages
  pub places : m.places ≡ q.memory.places
  pub stations : m.stations ≡ q.stations
  pub limit : m.limit ≡ q.limit
  pub pairs : (t : ℕ) → m.under t ≡ pair q.memory t
  pub adds_at : m.add_mark ≡ q.memory.tail
  pub takes_at : m.take_mark ≡ q.memory.head
  pub does : (s : ℕ) → Does q.memory (stage q s) (m.doing s)
  -- a lone call ends within 15n + 2 turns
  pub ends_soon : (s : ℕ) → (b : ℕ) × (m.lone s + b ≤ 15 * m.places + 2) × Left q.memory (stage q s) b
