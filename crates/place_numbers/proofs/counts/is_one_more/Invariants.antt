use Rattle.std.proofs.Common.{◌<◌, ℕ}
use Rattle.place_numbers.specs.inner.Parts.{GoesUp}
use Rattle.place_numbers.proofs.counts.is_one_more.Given as goal

abbrev pub invariant-loop-k : goal.invariant-loop-k
invariant-loop-k l = (j : ℕ) → j < l.k → GoesUp l.ns l.ms l.worker j
