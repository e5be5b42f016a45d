use Rattle.std.proofs.Common.{◌≡◌, drop, map}
use Rattle.worker_pairing.specs.Faults.{message_passes}
use Rattle.worker_members.specs.Held.{members_held, numbered_held}
use Rattle.worker_messages.specs.inner.InTurn.{Leads}
use Rattle.worker_messages.proofs.messages.messages_pass.Given as goal

abbrev pub invariant-loop-event : goal.invariant-loop-event
invariant-loop-event g l =
    (g.T.Types.atoms l.types ≡ g.T.Types.atoms l.fn.types)
    × Leads (message_passes g.T.Types.passes (members_held l.members)) (g.T.Types.atoms l.fn.types) (map numbered_held l.events) (map numbered_held (drop l.event-index l.events))
