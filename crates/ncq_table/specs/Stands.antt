-- Which models a state of the naive circular queue stands for.
--
-- A word stands for a pair while it has its slot's ticket's cycle and Head has not passed that
-- ticket. The link to a model is a relation: the mark at which a call began is kept nowhere, and no
-- more is the number of its lone turns.
--
-- pair             the index under a ticket
-- Fits             what the registers of a station that stands at a step say of the memory
-- Does             what a station that stands at a step does in the model
-- left             how many lone turns a call can still have, at the most
-- Sound            what holds of the memory and of every station's registers
-- Stands           the state stands for the model
--
-- Assumes nothing.
use Rattle.std.specs.Prelude.{◌≡◌, ℕ, ◌+◌, ◌<◌, ◌≤◌, false, if◌then◌else◌, ◌&&◌, length, Some, None, Option, ◌==◌, ◌≢◌, nat_le}
use Rattle.ring.specs.Model.{Doing, idle, adding, closing, seeking, Model}
use Rattle.ncq_table.specs.declared.Stage.{Stage}
use Rattle.ncq_table.specs.declared.Stage.TheVariants.{Idle, N1, N2, N3, N4, N5, N6, N7, N8}
use Rattle.ncq_table.specs.Table.{cycle, index, Memory, word, State, stage}

abbrev pub pair : Memory → ℕ → Option ℕ
pair m t = if nat_le m.head t && cycle m.places (word m t) == cycle m.places t then Some (index m.places (word m t)) else None

-- index i is in no pair
abbrev pub Absent : Memory → ℕ → ℕ → Type 0
Absent m e i = (u : ℕ) → m.head ≤ u → u < e → index m.places (word m u) ≢ i

-- e is the ticket after the last pair's
abbrev pub Fits : Memory → ℕ → Stage → Type 0
Fits m e Idle = Unit {0}
Fits m e (N1 i) = (i < m.places) × Absent m e i
Fits m e (N2 i t) = (i < m.places) × Absent m e i × (t ≤ m.tail)
Fits m e (N3 i t) = (i < m.places) × Absent m e i × (t < e)
Fits m e (N4 i t w) = (i < m.places) × Absent m e i × (t ≤ m.tail) × (cycle m.places w + 1 ≡ cycle m.places t)
Fits m e (N5 t) = t < e
Fits m e N6 = Unit {0}
Fits m e (N7 h) = h ≤ m.head
Fits m e (N8 h w) = (h ≤ m.head) × (cycle m.places w ≡ cycle m.places h) × (h ≡ m.head → w ≡ word m h)

-- the index that the station is still to write
abbrev pub writes : Stage → Option ℕ
writes Idle = None
writes (N1 i) = Some i
writes (N2 i t) = Some i
writes (N3 i t) = Some i
writes (N4 i t w) = Some i
writes (N5 t) = None
writes N6 = None
writes (N7 h) = None
writes (N8 h w) = None

abbrev AddsFrom : ℕ → ℕ → Doing → Type 0
AddsFrom i mark d = (f : ℕ) × (f ≤ mark) × (d ≡ adding i f)

abbrev SeeksFrom : ℕ → Doing → Type 0
SeeksFrom mark d = (f : ℕ) × (f ≤ mark) × (d ≡ seeking f None false)

abbrev pub Does : Memory → Stage → Doing → Type 0
Does m Idle d = d ≡ idle
Does m (N1 i) d = AddsFrom i m.tail d
Does m (N2 i t) d = AddsFrom i t d
Does m (N3 i t) d = AddsFrom i t d
Does m (N4 i t w) d = AddsFrom i t d
Does m (N5 t) d = d ≡ closing t
Does m N6 d = SeeksFrom m.head d
Does m (N7 h) d = SeeksFrom h d
Does m (N8 h w) d = SeeksFrom h d

-- an add that begins alone needs four turns, or seven where Tail is still to be moved past the last pair
abbrev pub add_left : Memory → ℕ → ℕ
add_left m e = if e == m.tail then 4 else 7

abbrev pub left : Memory → ℕ → Stage → ℕ
left m e Idle = 0
left m e (N1 i) = add_left m e
left m e (N2 i t) = if t == m.tail then (if e == m.tail then 3 else 6) else add_left m e + 2
left m e (N3 i t) = if t == m.tail then 5 else add_left m e + 1
left m e (N4 i t w) = if word m t == w then 2 else add_left m e + 1
left m e (N5 t) = 1
left m e N6 = 3
left m e (N7 h) = if h == m.head then 2 else 5
left m e (N8 h w) = if h == m.head then 1 else 4

-- what the memory keeps; e is the ticket after the last pair's
pub record Shared (m : Memory) (e : ℕ) : Type 0 where
  -- there is a slot, and the table has room for all
  pub some_place : 1 ≤ m.places
  pub room : m.places ≤ length m.words
  -- Tail lags behind the last pair by one turn at the most
  pub tail_low : m.tail ≤ e
  pub tail_near : e ≤ m.tail + 1
  -- the last n tickets below e have the n slots to themselves
  pub past : m.places ≤ e
  pub window : (u : ℕ) → u < e → e ≤ u + m.places → cycle m.places (word m u) ≡ cycle m.places u
  -- the pairs are under the tickets from Head to e, with different indices
  pub head_low : m.head ≤ e
  pub apart : (u v : ℕ) → m.head ≤ u → u < e → m.head ≤ v → v < e →
      index m.places (word m u) ≡ index m.places (word m v) → u ≡ v

pub record Sound (q : State) (e : ℕ) : Type 0 where
  pub shared : Shared q.memory e
  pub table_room : q.stations ≤ length q.stages
  -- nobody else takes part
  pub beyond : (s : ℕ) → q.stations ≤ s → stage q s ≡ Idle
  pub fits : (s : ℕ) → Fits q.memory e (stage q s)
  -- no two stations are to write one index
  pub one_writer : (s r i : ℕ) → writes (stage q s) ≡ Some i → writes (stage q r) ≡ Some i → s ≡ r

pub record Stands (q : State) (m : Model) : Type 0 where
  -- the ticket after the last pair's
  pub end : ℕ
  pub sound : Sound q end
  pub places : m.places ≡ q.memory.places
  pub stations : m.stations ≡ q.stations
  pub limit : m.limit ≡ q.limit
  pub pairs : (t : ℕ) → m.under t ≡ pair q.memory t
  pub adds_at : m.add_mark ≡ q.memory.tail
  pub takes_at : m.take_mark ≡ q.memory.head
  pub does : (s : ℕ) → Does q.memory (stage q s) (m.doing s)
  -- a lone call ends within nine turns
  pub ends_soon : (s : ℕ) → m.lone s + left q.memory end (stage q s) ≤ 9
