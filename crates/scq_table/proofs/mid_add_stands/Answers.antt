use Rattle.scq_table.specs.Table.{new_words, adds, turns}
use Rattle.scq_table.specs.Example.{new}
use Rattle.scq_table.proofs.Meaning.{table_means}
use Rattle.scq_table.proofs.mid_add_stands.Goals as goal

pub returns : goal.returns
unfolding new_words
returns c =
    let made = (table_means.empty_means 1 1 4).1 in
    let begun = (table_means.add_means new 0 0 made.0 made.1.2).3 in
    let one = table_means.turn_means (adds new 0 0).1 0 begun.0 begun.1.1 in
    let two = table_means.turn_means (turns (adds new 0 0).1 0).1 0 one.0 one.1.1 in
    let three = table_means.turn_means (turns (turns (adds new 0 0).1 0).1 0).1 0 two.0 two.1.1 in
    (three.0, three.1.1, three.1.1.pairs 2, three.1.1.does 0)
