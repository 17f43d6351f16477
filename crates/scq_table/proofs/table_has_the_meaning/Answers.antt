use Rattle.scq_table.proofs.Meaning.{table_means}
use Rattle.scq_table.proofs.table_has_the_meaning.Goals as goal

pub returns : goal.returns
returns c = table_means
