-- How old a word is.
--
-- age              how many cycles before the ticket's a word was written, if it was not after it
--
-- Assumes nothing.
use Rattle.std.specs.Prelude.{ℕ, ◌-◌, if◌then◌else◌, Some, None, Option, nat_le}
use Rattle.ncq_table.specs.Table.{cycle}

abbrev pub age : ℕ → ℕ → ℕ → Option ℕ
age n w t = if nat_le (cycle n w) (cycle n t) then Some (cycle n t - cycle n w) else None
