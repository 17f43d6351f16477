-- Single cells that change.
--
-- swapped          whether a compare-and-set succeeds, and the cell after it
-- put f s x        the function f with the value x at s
--
-- Assumes nothing.
use Rattle.std.specs.Prelude.{ℕ, Bool, true, false, if◌then◌else◌, ◌==◌}

abbrev pub swapped : ℕ → ℕ → ℕ → Bool × ℕ
swapped cell old new = if cell == old then (true, new) else (false, cell)

abbrev pub put : {X : Type 0} → (ℕ → X) → ℕ → X → ℕ → X
put f s x r = if r == s then x else f r
