use Rattle.std.proofs.Common.{◌≡◌, drop, map}
use Rattle.worker_pairing.specs.Faults.{member_passes}
use Rattle.worker_members.specs.Held.{member_held}
use Rattle.worker_messages.specs.inner.InTurn.{Leads}
use Rattle.worker_messages.proofs.returns.all_pass_in.Given as goal

abbrev pub invariant-loop-member : goal.invariant-loop-member
invariant-loop-member g l =
    (g.T.Types.atoms l.types ≡ g.T.Types.atoms l.fn.types)
    × Leads (member_passes g.T.Types.passes) (g.T.Types.atoms l.fn.types) (map member_held l.members) (map member_held (drop l.member-index l.members))
