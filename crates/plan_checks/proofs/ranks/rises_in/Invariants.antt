use Rattle.std.proofs.Common.{◌≤◌}
use Rattle.worker_pairing.specs.Marks.{members_of}
use Rattle.plan_checks.proofs.Falling.{RisesWithin}
use Rattle.plan_checks.proofs.Loops.{Below}
use Rattle.plan_checks.proofs.ranks.rises_in.Given as goal

abbrev pub invariant-loop-number : goal.invariant-loop-number
invariant-loop-number l = (1 ≤ l.number) × Below (RisesWithin (members_of l.f) l.ranks l.worker) l.number
