use Rattle.expr_needs.specs.Needs.{Awaits}
use Rattle.check_work.specs.Views.{going}
use Rattle.needs_of_actions.proofs.Asked.{both-on}
use Rattle.needs_of_actions.proofs.awaiting.awaits.Goals as goal

pub await_name-answer-requires-clause-names : goal.await_name-answer-requires-clause-names
await_name-answer-requires-clause-names g c = (c.requires (c.has_stopped.ensures.goes_on c.if-has_stopped.false)).0

pub await_name-answer-requires-clause-stands : goal.await_name-answer-requires-clause-stands
await_name-answer-requires-clause-stands g c = (c.requires (c.has_stopped.ensures.goes_on c.if-has_stopped.false)).1

pub returns-clause-holds : goal.returns-clause-holds
returns-clause-holds g c =
    let env = g.T.Types.atoms c.args.checker.now.types in
    c.note.ensures.holds env c.args.checker.now.names.now c.await_name-answer.ensures.atoms
    (both-on _ _ c.await_name-answer.result (c.requires (c.has_stopped.ensures.goes_on c.if-has_stopped.false)).0 c.await_name-answer.ensures.stands)

pub returns-clause-met : goal.returns-clause-met
returns-clause-met g c =
    let env = g.T.Types.atoms c.args.checker.now.types in
    c.note.ensures.runs env c.args.checker.now.names.now (Awaits c.args.name.now) (going env c.args.checker.now.work) c.await_name-answer.ensures.atoms (c.has_stopped.ensures.goes_on c.if-has_stopped.false)
    c.await_name-answer.ensures.comes
