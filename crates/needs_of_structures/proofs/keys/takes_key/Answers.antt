use Rattle.std.proofs.Common.{refl}
use Rattle.expr_needs.specs.Needs.{TakesKey}
use Rattle.check_work.specs.Views.{going}
use Rattle.needs_of_structures.proofs.Answering.{on-both}
use Rattle.needs_of_structures.proofs.keys.takes_key.Goals as goal

pub returns-clause-holds : goal.returns-clause-holds
returns-clause-holds g c =
    let env = g.T.Types.atoms c.args.checker.now.types in
    let before = c.requires (c.has_stopped.ensures.goes_on c.if-has_stopped.false) in
    c.note.ensures.holds env c.args.checker.now.names.now refl (on-both _ _ c.take_key-answer.result before.0 (c.take_key-answer.ensures.stands env before.1))

pub returns-clause-met : goal.returns-clause-met
returns-clause-met g c =
    let env = g.T.Types.atoms c.args.checker.now.types in
    c.note.ensures.runs env c.args.checker.now.names.now (TakesKey c.args.key.now c.args.at) (going env c.args.checker.now.work) refl (c.has_stopped.ensures.goes_on c.if-has_stopped.false)
    (c.take_key-answer.ensures.comes env)
