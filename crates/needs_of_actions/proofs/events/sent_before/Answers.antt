use Rattle.std.proofs.Common.{◌∙◌, ap, arith, sym}
use Rattle.needs_of_actions.specs.Failing.{one_if}
use Rattle.needs_of_actions.proofs.Counted.{sent-go, sent-none, sent-stop}
use Rattle.needs_of_actions.proofs.events.sent_before.Goals as goal

pub returns-then-ends : goal.returns-then-ends
returns-then-ends c =
    sent-stop c.args.events.now c.loop-event.event-index c.event-item.result (omega arith) c.event-item.is c.args.own c.args.peer c.args.at c.loop-event.sent _ c.loop-event.invariant.same
    (sym c.ends.ensures ∙ c.if-ends.true)

pub loop-event-preserved : goal.loop-event-preserved
loop-event-preserved c =
    record {
      few = omega (arith, c.one_if-sent.ensures.small, c.loop-event.invariant.few);
      same = sent-go c.args.events.now c.loop-event.event-index c.event-item.result (omega arith) c.event-item.is c.args.own c.args.peer c.args.at c.loop-event.sent _ c.loop-event.invariant.same
          c.one_if-sent.result (sym c.ends.ensures ∙ c.if-ends.false) (c.one_if-sent.ensures.is ∙ ap one_if c.sends_here.ensures);
    }

pub returns : goal.returns
returns c = sent-none c.args.own c.args.peer c.args.events.now c.loop-event.event-index (omega arith) c.args.at c.loop-event.sent _ c.loop-event.invariant.same
