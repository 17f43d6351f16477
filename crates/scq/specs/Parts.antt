-- The parts of a word: its cycle, whether it is safe, and the index in it, if there is one.
--
-- Assumes nothing.
use Rattle.std.specs.Prelude.{ℕ, ◌==◌, if◌then◌else◌, Some, None}
use Rattle.scq_table.specs.Table.{word_cycle, safe, index, bottom}
use Rattle.scq.specs.declared.layout.Parts.{Parts}

abbrev pub parts : ℕ → ℕ → Parts
parts n w = record {
  cycle = word_cycle n w;
  safe = safe n w == 1;
  index = if index n w == bottom n then None else Some (index n w);
}
