use Rattle.std.proofs.Common.{ℕ, ◌^◌, ◌<◌, List, get_or, sym, subst, arith}
use Rattle.ncq_table.proofs.Bounds.{full_words_low}
use Rattle.ncq.proofs.NcqMemoryMemory.full.Goals as goal

pub invariant_of-result-clause-words_low : goal.invariant_of-result-clause-words_low
invariant_of-result-clause-words_low c =
    let n = c.args.sizes.places in
    subst (λ (words : List ℕ). (j : ℕ) → get_or words j 0 < 2 ^ 40) (sym c.words_of_all.ensures)
    (λ j. omega (arith, full_words_low n 0 c.args.sizes.small.0 j))
