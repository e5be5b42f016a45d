use Rattle.std.proofs.Common.{◌≡◌, ◌++◌}
use Rattle.worker_pairing.specs.Marks.{members_of}
use Rattle.plan_checks.proofs.Stripped.{due_to}
use Rattle.plan_checks.proofs.pairs.without_events.Given as goal

abbrev pub invariant-loop-number : goal.invariant-loop-number
invariant-loop-number l = l.given ≡ due_to (members_of l.f) l.part l.worker l.number ++ l.left
