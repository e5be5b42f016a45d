use Rattle.worker_pairing.specs.Marks.{members_of}
use Rattle.plan_checks.specs.Needing.{Falls}
use Rattle.plan_checks.proofs.Loops.{Below}
use Rattle.plan_checks.proofs.needs.needs_fall.Given as goal

abbrev pub invariant-loop-worker : goal.invariant-loop-worker
invariant-loop-worker l = Below (Falls (members_of l.f) l.ranks) l.worker
