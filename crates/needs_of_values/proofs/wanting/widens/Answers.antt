use Rattle.expr_needs.specs.Needs.{Widens}
use Rattle.check_work.specs.Views.{going}
use Rattle.needs_of_values.proofs.Asked.{both-on}
use Rattle.needs_of_values.proofs.wanting.widens.Goals as goal

pub want_widened-answer-requires-clause-own : goal.want_widened-answer-requires-clause-own
want_widened-answer-requires-clause-own g c = (c.requires (c.has_stopped.ensures.goes_on c.if-has_stopped.false)).0.own

pub want_widened-answer-requires-clause-stands : goal.want_widened-answer-requires-clause-stands
want_widened-answer-requires-clause-stands g c = (c.requires (c.has_stopped.ensures.goes_on c.if-has_stopped.false)).1

pub returns-clause-holds : goal.returns-clause-holds
returns-clause-holds g c =
    let env = g.T.Types.atoms c.args.checker.now.types in
    let before = c.requires (c.has_stopped.ensures.goes_on c.if-has_stopped.false) in
    c.note.ensures.holds env c.args.checker.now.names.now c.want_widened-answer.ensures.atoms (both-on _ _ c.want_widened-answer.result before.0 c.want_widened-answer.ensures.stands)

pub returns-clause-met : goal.returns-clause-met
returns-clause-met g c =
    let env = g.T.Types.atoms c.args.checker.now.types in
    c.note.ensures.runs env c.args.checker.now.names.now (Widens c.args.at) (going env c.args.checker.now.work) c.want_widened-answer.ensures.atoms (c.has_stopped.ensures.goes_on c.if-has_stopped.false)
    c.want_widened-answer.ensures.comes
