use Rattle.std.proofs.Common.{drop, map}
use Rattle.bal_base.specs.declared.fault.FaultCode.TheVariants.{Conditional}
use Rattle.bal_base.specs.declared.fault.Kept.TheVariants.{Nothing}
use Rattle.worker_pairing.specs.Faults.{at_event, is_conditional}
use Rattle.worker_members.specs.Held.{numbered_held}
use Rattle.worker_faults.specs.inner.InTurn.{Leads}
use Rattle.worker_faults.proofs.faults.none_conditional.Given as goal

abbrev pub invariant-loop-event : goal.invariant-loop-event
invariant-loop-event l = Leads is_conditional (at_event Conditional Nothing) (map numbered_held l.text) (map numbered_held (drop l.event-index l.text))
