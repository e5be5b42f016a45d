use Rattle.std.proofs.Common.{◌≡◌, ◌≤◌, ◌++◌}
use Rattle.worker_pairing.specs.Marks.{members_of}
use Rattle.plan_checks.proofs.Stripped.{named_to}
use Rattle.plan_checks.proofs.pairs.without_named.Given as goal

abbrev pub invariant-loop-worker : goal.invariant-loop-worker
invariant-loop-worker l = (1 ≤ l.worker) × (l.given ≡ named_to (members_of l.f) l.worker ++ l.left)
