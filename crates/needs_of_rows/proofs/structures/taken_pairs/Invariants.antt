use Rattle.std.proofs.Common.{◌≡◌}
use Rattle.pair_questions.specs.Pairs.{pairs_of}
use Rattle.needs_of_rows.specs.inner.FirstPairs.{first_pairs}
use Rattle.needs_of_rows.proofs.structures.taken_pairs.Given as goal

abbrev pub invariant-loop-k : goal.invariant-loop-k
invariant-loop-k l = pairs_of l.taken.items ≡ first_pairs l.k l.operands
