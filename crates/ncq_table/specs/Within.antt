-- The bounds that keep a ring's numbers far below the largest of the machine.
--
-- past_index       one more than the index that a station at a step has, or 0 if it has none
-- past_ticket      one more than its ticket, or 0
-- StepFits         what a station's next step needs, at a ticket limit l
-- LowIndices       every station's index is below n
-- LowTickets       every station's ticket is below the limit l
-- LowWords         every word is below n + l
-- Bounded          all of it
--
-- Assumes nothing.
use Rattle.std.specs.Prelude.{ℕ, ◌+◌, ◌<◌, ◌≤◌, List, slice_index, slice_index_or}
use Rattle.ncq_table.specs.Table.{Memory}
use Rattle.ncq_table.specs.declared.Stage.{Stage}
use Rattle.ncq_table.specs.declared.Stage.TheVariants.{Idle, N1, N2, N3, N4, N5, N6, N7, N8}

abbrev pub past_index : Stage → ℕ
past_index Idle = 0
past_index (N1 i) = i + 1
past_index (N2 i t) = i + 1
past_index (N3 i t) = i + 1
past_index (N4 i t w) = i + 1
past_index (N5 t) = 0
past_index N6 = 0
past_index (N7 h) = 0
past_index (N8 h w) = 0

abbrev pub past_ticket : Stage → ℕ
past_ticket Idle = 0
past_ticket (N1 i) = 0
past_ticket (N2 i t) = t + 1
past_ticket (N3 i t) = t + 1
past_ticket (N4 i t w) = t + 1
past_ticket (N5 t) = t + 1
past_ticket N6 = 0
past_ticket (N7 h) = h + 1
past_ticket (N8 h w) = h + 1

pub record StepFits (l : ℕ) (m : Memory) (st : Stage) : Type 0 where
  pub limit_low : l ≤ 999999999
  pub tail_low : m.tail ≤ l
  pub head_low : m.head ≤ l
  pub index_low : past_index st ≤ m.places
  pub ticket_low : past_ticket st ≤ l

abbrev pub LowIndices : ℕ → List Stage → Type 0
LowIndices n stages = (s : ℕ) → past_index (slice_index_or stages s Idle) ≤ n

abbrev pub LowTickets : ℕ → List Stage → Type 0
LowTickets l stages = (s : ℕ) → past_ticket (slice_index_or stages s Idle) ≤ l

abbrev pub LowWords : ℕ → ℕ → List ℕ → Type 0
LowWords n l words = (j : ℕ) → slice_index words j < n + l

-- k stations, limit l
pub record Bounded (k l : ℕ) (m : Memory) (stages : List Stage) : Type 0 where
  pub sized : (1 ≤ m.places) × (m.places ≤ 64) × (k ≤ 64) × (l ≤ 999999999)
  pub counted : (m.head ≤ l) × (m.tail ≤ l)
  pub words_low : LowWords m.places l m.words
  pub indices_low : LowIndices m.places stages
  pub tickets_low : LowTickets l stages
