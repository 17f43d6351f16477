-- The memory that the code's shows: its fields, without the proofs of its bounds.
--
-- Assumes nothing.
use Rattle.ncq_table.specs.Table.{Memory}
use Rattle.ncq.specs.declared.memory.NcqMemory.{NcqMemory}

abbrev pub view : NcqMemory → Memory
view m = record { places = m.places; head = m.head; tail = m.tail; words = m.words }
