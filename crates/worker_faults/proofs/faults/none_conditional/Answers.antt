use Rattle.std.proofs.Common.{arith, map}
use Rattle.bal_base.specs.declared.fault.FaultCode.TheVariants.{Conditional}
use Rattle.bal_base.specs.declared.fault.Kept.TheVariants.{Nothing}
use Rattle.worker_pairing.specs.Faults.{at_event, is_conditional}
use Rattle.worker_members.specs.Held.{numbered_held}
use Rattle.worker_faults.proofs.Stops.{leads-all, leads-end, leads-next, leads-stop}
use Rattle.worker_faults.proofs.faults.none_conditional.Goals as goal

pub loop-event-init : goal.loop-event-init
loop-event-init c = leads-all is_conditional (at_event Conditional Nothing) (map numbered_held c.args.text.now)

pub loop-event-preserved : goal.loop-event-preserved
loop-event-preserved c =
    leads-next is_conditional (at_event Conditional Nothing) (map numbered_held c.args.text.now) c.args.text.now c.loop-event.event-index c.event-item.result (omega arith) c.event-item.is c.if-event.false c.loop-event.invariant

pub returns-then-event : goal.returns-then-event
returns-then-event c =
    leads-stop is_conditional (at_event Conditional Nothing) (map numbered_held c.args.text.now) c.args.text.now c.loop-event.event-index c.event-item.result c.fault_at.result (omega arith) c.event-item.is c.if-event.true c.fault_at.ensures c.loop-event.invariant

pub returns : goal.returns
returns c = leads-end is_conditional (at_event Conditional Nothing) (map numbered_held c.args.text.now) c.args.text.now c.loop-event.event-index (omega arith) c.loop-event.invariant
