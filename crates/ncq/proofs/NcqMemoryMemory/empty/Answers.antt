use Rattle.std.proofs.Common.{ℕ, arith}
use Rattle.ring.proofs.Entries.{get_or-same}
use Rattle.ncq.proofs.NcqMemoryMemory.empty.Goals as goal

pub invariant_of-result-clause-words_low : goal.invariant_of-result-clause-words_low
invariant_of-result-clause-words_low c = λ j. simp (get_or-same {X = ℕ} 64 j 0) (omega arith)
