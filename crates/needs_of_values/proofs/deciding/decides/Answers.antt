use Rattle.expr_needs.specs.Needs.{Decides}
use Rattle.check_work.specs.Views.{going}
use Rattle.needs_of_values.proofs.Asked.{both-on}
use Rattle.needs_of_values.proofs.deciding.decides.Goals as goal

pub decide-answer-requires-clause-own : goal.decide-answer-requires-clause-own
decide-answer-requires-clause-own g c = (c.requires (c.has_stopped.ensures.goes_on c.if-has_stopped.false)).0.own

pub decide-answer-requires-clause-stands : goal.decide-answer-requires-clause-stands
decide-answer-requires-clause-stands g c = (c.requires (c.has_stopped.ensures.goes_on c.if-has_stopped.false)).1

pub returns-clause-holds : goal.returns-clause-holds
returns-clause-holds g c =
    let env = g.T.Types.atoms c.args.checker.now.types in
    let before = c.requires (c.has_stopped.ensures.goes_on c.if-has_stopped.false) in
    c.note.ensures.holds env c.args.checker.now.names.now c.decide-answer.ensures.atoms (both-on _ _ c.decide-answer.result before.0 c.decide-answer.ensures.stands)

pub returns-clause-met : goal.returns-clause-met
returns-clause-met g c =
    let env = g.T.Types.atoms c.args.checker.now.types in
    c.note.ensures.runs env c.args.checker.now.names.now (Decides c.args.at) (going env c.args.checker.now.work) c.decide-answer.ensures.atoms (c.has_stopped.ensures.goes_on c.if-has_stopped.false)
    c.decide-answer.ensures.comes
