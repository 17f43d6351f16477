use Rattle.std.proofs.Common.{rules}
use Rattle.ring.proofs.Arrays.{from_fn_is}
use borrow.Author.Tests.{tests}
use Rattle.scq_table.specs.Table.{word_of_new, new_words}
use Rattle.scq.proofs.new_words.Goals as goal

pub returns : goal.returns
unfolding new_words
returns c =
    from_fn_is _ _ (word_of_new c.args.layout.places c.args.filled) (λ i y q k. (search (rules, tests), search (rules, tests))) _ 128 0 c.from_fn.ensures.items
