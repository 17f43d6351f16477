-- How the step that a station's next turn makes is printed.
--
-- step_name        its name in the step table
--
-- Assumes nothing.
use Rattle.std.specs.Prelude.{ℕ, List, codes}
use Rattle.ncq_table.specs.declared.Stage.{Stage}
use Rattle.ncq_table.specs.declared.Stage.TheVariants.{Idle, N1, N2, N3, N4, N5, N6, N7, N8}

abbrev pub step_name : Stage → List ℕ
step_name Idle = codes "idle"
step_name (N1 i) = codes "N1"
step_name (N2 i t) = codes "N2"
step_name (N3 i t) = codes "N3"
step_name (N4 i t w) = codes "N4"
step_name (N5 t) = codes "N5"
step_name N6 = codes "N6"
step_name (N7 h) = codes "N7"
step_name (N8 h w) = codes "N8"
