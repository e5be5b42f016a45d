use Rattle.std.proofs.Common.{refl}
use Rattle.expr_needs.specs.Needs.{Receives}
use Rattle.check_work.specs.Views.{going}
use Rattle.needs_of_actions.proofs.Asked.{both-on}
use Rattle.needs_of_actions.proofs.receiving.receives.Goals as goal

pub returns-clause-holds : goal.returns-clause-holds
returns-clause-holds g c =
    let env = g.T.Types.atoms c.args.checker.now.types in
    let before = c.requires (c.has_stopped.ensures.goes_on c.if-has_stopped.false) in
    c.note.ensures.holds env c.args.checker.now.names.now refl (both-on _ _ c.receive-answer.result before.0 (c.receive-answer.ensures.stands env before.1))

pub returns-clause-met : goal.returns-clause-met
returns-clause-met g c =
    let env = g.T.Types.atoms c.args.checker.now.types in
    c.note.ensures.runs env c.args.checker.now.names.now (Receives c.args.expected c.args.peer.now c.args.at) (going env c.args.checker.now.work) refl (c.has_stopped.ensures.goes_on c.if-has_stopped.false)
    (c.receive-answer.ensures.comes env)
