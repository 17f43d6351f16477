-- The memory that the code's shows: its fields, without the proofs of its bounds.
--
-- Assumes nothing.
use Rattle.scq_table.specs.Table.{Memory}
use Rattle.scq.specs.declared.memory.ScqMemory.{ScqMemory}

abbrev pub view : ScqMemory → Memory
view m = record { places = m.layout.places; head = m.head; tail = m.tail; threshold = m.threshold; words = m.words }
