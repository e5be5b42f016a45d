use Rattle.worker_plans.proofs.Same.{SameFirst}
use Rattle.worker_plans.proofs.checking.same_pairs.Given as goal

abbrev pub invariant-loop-i : goal.invariant-loop-i
invariant-loop-i l = SameFirst l.a l.b l.i
