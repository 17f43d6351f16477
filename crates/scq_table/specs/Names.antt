-- How the step that a station's next turn makes is printed.
--
-- step_name        its name in the step table
--
-- Assumes nothing.
use Rattle.std.specs.Prelude.{ℕ, List, codes}
use Rattle.scq_table.specs.declared.Stage.{Stage}
use Rattle.scq_table.specs.declared.Stage.TheVariants.{Idle, A1, A2, A3, A4, A5, A6, T1, T2, T3, T4, T5, T6, T7, T8, T9, T10, T11}

abbrev pub step_name : Stage → List ℕ
step_name Idle = codes "idle"
step_name (A1 i) = codes "A1"
step_name (A2 i t) = codes "A2"
step_name (A3 i t e) = codes "A3"
step_name (A4 i t e) = codes "A4"
step_name (A5 t) = codes "A5"
step_name (A6 t) = codes "A6"
step_name T1 = codes "T1"
step_name T2 = codes "T2"
step_name (T3 h) = codes "T3"
step_name (T4 h e) = codes "T4"
step_name (T5 h e) = codes "T5"
step_name (T6 h) = codes "T6"
step_name (T7 h u v) = codes "T7"
step_name (T8 h) = codes "T8"
step_name (T9 h v) = codes "T9"
step_name (T10 h) = codes "T10"
step_name (T11 h) = codes "T11"
