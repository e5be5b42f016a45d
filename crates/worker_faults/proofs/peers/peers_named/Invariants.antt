use Rattle.std.proofs.Common.{drop, map}
use Rattle.bal_base.specs.declared.fault.FaultCode.TheVariants.{NoPeer}
use Rattle.bal_base.specs.declared.fault.Kept.TheVariants.{Nothing}
use Rattle.worker_pairing.specs.Faults.{at_event}
use Rattle.worker_members.specs.Held.{numbered_held}
use Rattle.worker_faults.specs.inner.InTurn.{Leads, no_peer_among}
use Rattle.worker_faults.proofs.peers.peers_named.Given as goal

abbrev pub invariant-loop-event : goal.invariant-loop-event
invariant-loop-event l = Leads (no_peer_among l.workers) (at_event NoPeer Nothing) (map numbered_held l.text) (map numbered_held (drop l.event-index l.text))
