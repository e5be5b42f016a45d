use Rattle.std.proofs.Common.{◌∙◌, arith, map, sym}
use Rattle.bal_base.specs.declared.fault.FaultCode.TheVariants.{NoPeer}
use Rattle.bal_base.specs.declared.fault.Kept.TheVariants.{Nothing}
use Rattle.worker_pairing.specs.Faults.{at_event}
use Rattle.worker_members.specs.Held.{numbered_held}
use Rattle.worker_faults.specs.inner.InTurn.{no_peer_among}
use Rattle.worker_faults.proofs.Stops.{leads-all, leads-end, leads-next, leads-stop, none-among}
use Rattle.worker_faults.proofs.peers.peers_named.Goals as goal

pub loop-event-init : goal.loop-event-init
loop-event-init c = leads-all (no_peer_among c.args.workers) (at_event NoPeer Nothing) (map numbered_held c.args.text.now)

pub loop-event-preserved : goal.loop-event-preserved
loop-event-preserved c =
    leads-next (no_peer_among c.args.workers) (at_event NoPeer Nothing) (map numbered_held c.args.text.now) c.args.text.now c.loop-event.event-index c.event-item.result (omega arith) c.event-item.is
    (sym c.has_none.ensures ∙ c.if-has_none.false) c.loop-event.invariant

pub returns-then-has_none : goal.returns-then-has_none
returns-then-has_none c ms env same =
    none-among ms c.args.workers (at_event NoPeer Nothing) (map numbered_held c.args.text.now) env _ same
    (leads-stop (no_peer_among c.args.workers) (at_event NoPeer Nothing) (map numbered_held c.args.text.now) c.args.text.now c.loop-event.event-index c.event-item.result c.fault_at.result (omega arith) c.event-item.is
    (sym c.has_none.ensures ∙ c.if-has_none.true) c.fault_at.ensures c.loop-event.invariant env)

pub returns : goal.returns
returns c ms env same =
    none-among ms c.args.workers (at_event NoPeer Nothing) (map numbered_held c.args.text.now) env _ same
    (leads-end (no_peer_among c.args.workers) (at_event NoPeer Nothing) (map numbered_held c.args.text.now) c.args.text.now c.loop-event.event-index (omega arith) c.loop-event.invariant env)
