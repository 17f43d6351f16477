-- The table has the meaning of a ring.
use Rattle.ring.specs.Meaning.{HasMeaning}
use Rattle.ring.proofs.Tables.{meaning_of}
use Rattle.scq_table.specs.Table.{State, steps, empty, full, adds, takes, turns}
use Rattle.scq_table.specs.Stands.{Stands}
use Rattle.scq_table.proofs.Takes.{means_turn}
use Rattle.scq_table.proofs.Begins.{means_add, means_take}
use Rattle.scq_table.proofs.Makes.{means_empty, means_full}

pub table_means : HasMeaning State Stands empty full adds takes turns
table_means = meaning_of steps Stands means_empty means_full means_add means_take means_turn
