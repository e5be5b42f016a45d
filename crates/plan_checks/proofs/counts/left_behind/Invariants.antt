use Rattle.std.proofs.Common.{◌≡◌, ◌+◌}
use Rattle.worker_pairing.specs.Faults.{start_of}
use Rattle.worker_pairing.specs.Marks.{members_of}
use Rattle.plan_checks.proofs.counts.left_behind.Given as goal

abbrev pub invariant-loop-worker : goal.invariant-loop-worker
invariant-loop-worker l = l.left + start_of (members_of l.f) l.worker ≡ l.many
