use Rattle.std.proofs.Common.{◌≡◌, false, replicate}
use Rattle.worker_ranks.proofs.peel.unmarked.Given as goal

abbrev pub invariant-loop : goal.invariant-loop
invariant-loop l = l.marks.items ≡ replicate l.counter false
