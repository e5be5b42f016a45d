use Rattle.expr_needs.specs.Needs.{SendsAndWaits}
use Rattle.check_work.specs.Views.{going}
use Rattle.needs_of_actions.proofs.Asked.{both-on}
use Rattle.needs_of_actions.proofs.messages.sends_and_waits.Goals as goal

pub send_and_wait-answer-requires-clause-own : goal.send_and_wait-answer-requires-clause-own
send_and_wait-answer-requires-clause-own g c = (c.requires (c.has_stopped.ensures.goes_on c.if-has_stopped.false)).0.own

pub send_and_wait-answer-requires-clause-stands : goal.send_and_wait-answer-requires-clause-stands
send_and_wait-answer-requires-clause-stands g c = (c.requires (c.has_stopped.ensures.goes_on c.if-has_stopped.false)).1

pub returns-clause-holds : goal.returns-clause-holds
returns-clause-holds g c =
    let env = g.T.Types.atoms c.args.checker.now.types in
    c.note.ensures.holds env c.args.checker.now.names.now c.send_and_wait-answer.ensures.atoms (both-on _ _ c.send_and_wait-answer.result (c.requires (c.has_stopped.ensures.goes_on c.if-has_stopped.false)).0 c.send_and_wait-answer.ensures.stands)

pub returns-clause-met : goal.returns-clause-met
returns-clause-met g c =
    let env = g.T.Types.atoms c.args.checker.now.types in
    c.note.ensures.runs env c.args.checker.now.names.now (SendsAndWaits c.args.peer.now c.args.at) (going env c.args.checker.now.work) c.send_and_wait-answer.ensures.atoms (c.has_stopped.ensures.goes_on c.if-has_stopped.false)
    c.send_and_wait-answer.ensures.comes
