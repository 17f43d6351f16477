-- The bounds that keep a ring's numbers far from the ends of their types.
--
-- Numbers          the numbers in the registers of a station that stands at a step
-- Low              the index is below n, the ticket below the limit l, Head at most l, the word below 2^40
-- LowStages        this holds of every station
-- LowWords         every word of the ring is below 2^40
-- NotFarBelow      if each station that may still lower Threshold does, it is not below −k
-- StepFits         what a station's next step needs, at a ticket limit l
-- Bounded          all that holds of a ring
--
-- Assumes nothing.
use Rattle.std.specs.Prelude.{ℕ, ◌+◌, ◌^◌, ◌<◌, ◌≤◌, Bool, true, false, List, ℤ, pos, negsuc, ◌+ℤ◌, ◌≤ℤ◌, slice_index, slice_index_or}
use Rattle.ring.specs.Scans.{count_below}
use Rattle.scq_table.specs.Table.{Memory, top}
use Rattle.scq_table.specs.declared.Stage.{Stage}
use Rattle.scq_table.specs.declared.Stage.TheVariants.{Idle, A1, A2, A3, A4, A5, A6, T1, T2, T3, T4, T5, T6, T7, T8, T9, T10, T11}

-- the numbers in a station's registers; 0 stands for one that is not there
pub record Numbers : Type 0 where
  -- one more than its index, and one more than its ticket
  pub past_index : ℕ
  pub past_ticket : ℕ
  -- the value of Head and the word that it has loaded
  pub loaded_head : ℕ
  pub loaded_word : ℕ
  -- its take has found Threshold high enough, and has not lowered it for the last time
  pub may_lower : Bool

abbrev of_add : ℕ → ℕ → ℕ → Numbers
of_add past_i past_t e = record { past_index = past_i; past_ticket = past_t; loaded_head = 0; loaded_word = e; may_lower = false }

abbrev of_take : ℕ → ℕ → ℕ → Numbers
of_take past_h v e = record { past_index = 0; past_ticket = past_h; loaded_head = v; loaded_word = e; may_lower = true }

abbrev numbers : Stage → Numbers
numbers Idle = of_add 0 0 0
numbers (A1 i) = of_add (i + 1) 0 0
numbers (A2 i t) = of_add (i + 1) (t + 1) 0
numbers (A3 i t e) = of_add (i + 1) (t + 1) e
numbers (A4 i t e) = of_add (i + 1) (t + 1) e
numbers (A5 t) = of_add 0 (t + 1) 0
numbers (A6 t) = of_add 0 (t + 1) 0
numbers T1 = of_add 0 0 0
numbers T2 = of_take 0 0 0
numbers (T3 h) = of_take (h + 1) 0 0
numbers (T4 h e) = of_take (h + 1) 0 e
numbers (T5 h e) = of_take (h + 1) 0 e
numbers (T6 h) = of_take (h + 1) 0 0
numbers (T7 h u v) = of_take (h + 1) v 0
numbers (T8 h) = of_take (h + 1) 0 0
numbers (T9 h v) = of_take (h + 1) v 0
numbers (T10 h) = of_take (h + 1) 0 0
numbers (T11 h) = of_take (h + 1) 0 0

abbrev pub may_lower : Stage → Bool
may_lower st = (numbers st).may_lower

abbrev pub Low : ℕ → ℕ → Stage → Type 0
Low n l st = ((numbers st).past_index ≤ n) × ((numbers st).past_ticket ≤ l) × ((numbers st).loaded_head ≤ l) × ((numbers st).loaded_word < 2 ^ 40)

abbrev pub LowStages : ℕ → ℕ → List Stage → Type 0
LowStages n l stages = (s : ℕ) → Low n l (slice_index_or stages s Idle)

abbrev pub LowWords : List ℕ → Type 0
LowWords words = (j : ℕ) → slice_index words j < 2 ^ 40

abbrev pub lowering : ℕ → List Stage → ℕ
lowering k stages = count_below k (λ s. may_lower (slice_index_or stages s Idle))

abbrev pub NotFarBelow : ℕ → List Stage → ℤ → Type 0
NotFarBelow k stages z = pos (lowering k stages) ≤ℤ (z +ℤ pos k)

pub record StepFits (l : ℕ) (m : Memory) (st : Stage) : Type 0 where
  pub limit_low : l ≤ 999999999
  pub head_low : m.head ≤ l
  pub tail_low : m.tail ≤ l
  pub threshold_low : negsuc 63 ≤ℤ m.threshold
  pub registers_low : Low m.places l st

-- k stations, limit l
pub record Bounded (k l : ℕ) (m : Memory) (stages : List Stage) : Type 0 where
  pub sized : (1 ≤ m.places) × (m.places ≤ 64) × (k ≤ 64) × (l ≤ 999999999)
  pub counted : (m.head ≤ l) × (m.tail ≤ l)
  pub threshold_high : m.threshold ≤ℤ top m.places
  pub words_low : LowWords m.words
  pub stages_low : LowStages m.places l stages
  pub threshold_low : NotFarBelow k stages m.threshold
