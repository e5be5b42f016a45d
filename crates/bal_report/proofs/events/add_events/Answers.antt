use Rattle.bal_base.specs.declared.fault.Event.{Event}
use Rattle.bal_report.specs.EventText.{event_text}
use Rattle.bal_report.proofs.Reading.{adds-read_more}
use Rattle.bal_report.proofs.events.add_events.Goals as goal

pub loop-i-preserved : goal.loop-i-preserved
loop-i-preserved c =
    let none : Event = record { worker = 0; number = 0; at = record { file = 0; at = 0 } } in
    adds-read_more (event_text c.args.modules.now) c.args.events.now c.loop-i.i none _ _ _ _ c.loop-i-test.true c.loop-i.invariant c.in_ok-add_if.ensures c.in_ok-add_event.ensures
