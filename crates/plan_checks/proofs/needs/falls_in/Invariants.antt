use Rattle.worker_pairing.specs.Marks.{members_of}
use Rattle.plan_checks.specs.Needing.{FallsAt}
use Rattle.plan_checks.proofs.Loops.{Below}
use Rattle.plan_checks.proofs.needs.falls_in.Given as goal

abbrev pub invariant-loop-number : goal.invariant-loop-number
invariant-loop-number l = Below (FallsAt (members_of l.f) l.ranks l.worker) l.number
