use Rattle.std.proofs.Common.{refl}
use Rattle.expr_needs.specs.Needs.{HasParameter}
use Rattle.check_work.specs.Views.{going}
use Rattle.needs_of_units.proofs.Answering.{on-stop}
use Rattle.needs_of_units.proofs.anonymous.has_parameter.Goals as goal

pub returns-clause-holds : goal.returns-clause-holds
returns-clause-holds g c =
    let env = g.T.Types.atoms c.args.checker.now.types in
    let before = c.requires (c.has_stopped.ensures.goes_on c.if-has_stopped.false) in
    c.note.ensures.holds env c.args.checker.now.names.now refl (on-stop _ _ c.add_named-answer.result before.0 (c.add_named-answer.ensures.stands env before.1))

pub returns-clause-met : goal.returns-clause-met
returns-clause-met g c =
    let env = g.T.Types.atoms c.args.checker.now.types in
    c.note.ensures.runs env c.args.checker.now.names.now (HasParameter c.args.name.now) (going env c.args.checker.now.work) refl (c.has_stopped.ensures.goes_on c.if-has_stopped.false)
    (c.add_named-answer.ensures.comes env)
