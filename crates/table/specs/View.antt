-- The state that a ring over a memory shows: its fields, without the proofs of its bounds.
--
-- Assumes nothing.
use Rattle.ring.specs.Tables.{State}
use Rattle.table.specs.declared.Memory.{Ghosts}
use Rattle.table.specs.declared.table.Table.{Table}

abbrev pub view : {M S : Type 0} (g : Ghosts M S) → Table M S g → State g.shown S
view g q = record { stations = q.stations; limit = q.limit; memory = g.view q.memory; stages = q.stages }
