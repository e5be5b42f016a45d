use Rattle.expr_needs.specs.Needs.{Flushes}
use Rattle.check_work.specs.Views.{going}
use Rattle.needs_of_actions.proofs.Asked.{both-on}
use Rattle.needs_of_actions.proofs.messages.flushes.Goals as goal

pub flush-answer-requires-clause-own : goal.flush-answer-requires-clause-own
flush-answer-requires-clause-own g c = (c.requires (c.has_stopped.ensures.goes_on c.if-has_stopped.false)).0.own

pub flush-answer-requires-clause-stands : goal.flush-answer-requires-clause-stands
flush-answer-requires-clause-stands g c = (c.requires (c.has_stopped.ensures.goes_on c.if-has_stopped.false)).1

pub returns-clause-holds : goal.returns-clause-holds
returns-clause-holds g c =
    let env = g.T.Types.atoms c.args.checker.now.types in
    c.note.ensures.holds env c.args.checker.now.names.now c.flush-answer.ensures.atoms (both-on _ _ c.flush-answer.result (c.requires (c.has_stopped.ensures.goes_on c.if-has_stopped.false)).0 c.flush-answer.ensures.stands)

pub returns-clause-met : goal.returns-clause-met
returns-clause-met g c =
    let env = g.T.Types.atoms c.args.checker.now.types in
    c.note.ensures.runs env c.args.checker.now.names.now (Flushes c.args.peer.now c.args.at) (going env c.args.checker.now.work) c.flush-answer.ensures.atoms (c.has_stopped.ensures.goes_on c.if-has_stopped.false)
    c.flush-answer.ensures.comes
