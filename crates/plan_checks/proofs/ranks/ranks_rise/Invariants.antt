use Rattle.worker_pairing.specs.Marks.{members_of}
use Rattle.plan_checks.specs.Needing.{Rises}
use Rattle.plan_checks.proofs.Loops.{Below}
use Rattle.plan_checks.proofs.ranks.ranks_rise.Given as goal

abbrev pub invariant-loop-worker : goal.invariant-loop-worker
invariant-loop-worker l = Below (Rises (members_of l.f) l.ranks) l.worker
