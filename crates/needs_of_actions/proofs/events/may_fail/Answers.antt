use Rattle.std.proofs.Common.{◌∙◌, arith, sym}
use Rattle.needs_of_actions.proofs.Counted.{fails-found, fails-go, fails-none}
use Rattle.needs_of_actions.proofs.events.may_fail.Goals as goal

pub returns-then-both : goal.returns-then-both
returns-then-both c =
    fails-found c.args.events.now c.loop-event.event-index c.event-item.result (omega arith) c.event-item.is c.args.own c.args.peer c.args.number c.loop-event.seen _ c.loop-event.invariant.within c.loop-event.invariant.same
    c.receives_here-receives.result c.receives_here-receives.ensures (sym c.both.ensures ∙ c.if-both.true)

pub loop-event-preserved : goal.loop-event-preserved
loop-event-preserved c =
    let go = fails-go c.args.events.now c.loop-event.event-index c.event-item.result (omega arith) c.event-item.is c.args.own c.args.peer c.args.number c.loop-event.seen _ c.loop-event.invariant.within c.loop-event.invariant.same
    c.receives_here-receives.result c.one_if-seen.result c.receives_here-receives.ensures c.one_if-seen.ensures.is (sym c.both.ensures ∙ c.if-both.false) in
    record {
      few = omega (arith, c.one_if-seen.ensures.small, c.loop-event.invariant.few);
      within = go.0;
      same = go.1;
    }

pub returns : goal.returns
returns c = fails-none c.args.own c.args.peer c.args.events.now c.loop-event.event-index (omega arith) _ _ c.loop-event.invariant.same
