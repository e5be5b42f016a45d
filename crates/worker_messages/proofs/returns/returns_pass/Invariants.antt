use Rattle.std.proofs.Common.{◌≡◌, drop, map}
use Rattle.worker_pairing.specs.Faults.{return_passes}
use Rattle.worker_members.specs.Held.{member_held, returning_held}
use Rattle.worker_messages.specs.inner.InTurn.{Leads}
use Rattle.worker_messages.proofs.returns.returns_pass.Given as goal

abbrev pub invariant-loop-returned : goal.invariant-loop-returned
invariant-loop-returned g l =
    (g.T.Types.atoms l.types ≡ g.T.Types.atoms l.fn.types)
    × Leads (return_passes g.T.Types.passes (member_held l.member)) (g.T.Types.atoms l.fn.types) (map returning_held l.returns) (map returning_held (drop l.returned-index l.returns))
