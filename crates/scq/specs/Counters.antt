-- The counters of a ring, and the bounds of Threshold.
--
-- counters_of      Head, Tail and Threshold
-- ThresholdWithin  Threshold is not below −k, of k stations, nor below −64, nor over 3n − 1
--
-- Assumes nothing.
use Rattle.std.specs.Prelude.{pos, negsuc, ℤ, ◌+ℤ◌, ◌≤ℤ◌}
use Rattle.scq_table.specs.Table.{State, top}
use Rattle.scq.specs.declared.Counters.{Counters}

abbrev pub counters_of : State → Counters
counters_of q = record { head = q.memory.head; tail = q.memory.tail; threshold = q.memory.threshold }

abbrev pub ThresholdWithin : State → ℤ → Type 0
ThresholdWithin q z = (pos 0 ≤ℤ (z +ℤ pos q.stations)) × (negsuc 63 ≤ℤ z) × (z ≤ℤ top q.memory.places)
