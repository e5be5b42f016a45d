use Rattle.std.proofs.Common.{refl}
use Rattle.expr_needs.specs.Needs.{WidensItem}
use Rattle.check_work.specs.Views.{going}
use Rattle.needs_of_loops.proofs.Answered.{both-on}
use Rattle.needs_of_loops.proofs.items.widens_item.Goals as goal

pub widen_item-answer-requires-clause-own : goal.widen_item-answer-requires-clause-own
widen_item-answer-requires-clause-own g c = (c.requires (c.has_stopped.ensures.goes_on c.if-has_stopped.false)).0.own

pub widen_item-answer-requires-clause-stands : goal.widen_item-answer-requires-clause-stands
widen_item-answer-requires-clause-stands g c = (c.requires (c.has_stopped.ensures.goes_on c.if-has_stopped.false)).1

pub returns-clause-holds : goal.returns-clause-holds
returns-clause-holds g c =
    let before = c.requires (c.has_stopped.ensures.goes_on c.if-has_stopped.false) in
    c.note.ensures.holds (g.T.Types.atoms c.args.checker.now.types) c.args.checker.now.names.now c.widen_item-answer.ensures.atoms
    (both-on _ _ c.widen_item-answer.result before.0 c.widen_item-answer.ensures.stands)

pub returns-clause-met : goal.returns-clause-met
returns-clause-met g c =
    c.note.ensures.runs _ c.args.checker.now.names.now (WidensItem c.args.at) (going (g.T.Types.atoms c.args.checker.now.types) c.args.checker.now.work) refl
    (c.has_stopped.ensures.goes_on c.if-has_stopped.false) c.widen_item-answer.ensures.comes
