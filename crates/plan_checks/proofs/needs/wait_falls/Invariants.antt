use Rattle.std.proofs.Common.{All, take}
use Rattle.worker_pairing.specs.Marks.{members_of}
use Rattle.plan_checks.proofs.Falling.{NameFalls}
use Rattle.plan_checks.proofs.needs.wait_falls.Given as goal

abbrev pub invariant-loop-name : goal.invariant-loop-name
invariant-loop-name l = All (NameFalls (members_of l.f) l.ranks l.least) (take l.name-index l.names)
