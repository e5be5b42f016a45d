use Rattle.std.proofs.Common.{refl}
use Rattle.expr_needs.specs.Needs.{IsAssignable}
use Rattle.check_work.specs.Views.{going}
use Rattle.needs_of_statements.proofs.Answering.{on-answer}
use Rattle.needs_of_assignments.proofs.assignments.is_assignable.Goals as goal

pub returns-clause-holds : goal.returns-clause-holds
returns-clause-holds g c =
    let env = g.T.Types.atoms c.args.checker.now.types in
    let before = c.requires (c.has_stopped.ensures.goes_on c.if-has_stopped.false) in
    c.note.ensures.holds env c.args.checker.now.names.now refl
    (on-answer _ _ c.want_assignable-answer.result before.0 (c.want_assignable-answer.ensures.stands env before.0 before.1))

pub returns-clause-met : goal.returns-clause-met
returns-clause-met g c =
    let env = g.T.Types.atoms c.args.checker.now.types in
    c.note.ensures.runs env c.args.checker.now.names.now (IsAssignable c.args.name.now) (going env c.args.checker.now.work) refl
    (c.has_stopped.ensures.goes_on c.if-has_stopped.false) (c.want_assignable-answer.ensures.comes env)
