use Rattle.std.proofs.Common.{refl}
use Rattle.expr_needs.specs.Needs.{IsNew}
use Rattle.check_work.specs.Views.{going}
use Rattle.needs_of_statements.proofs.Answering.{on-any}
use Rattle.needs_of_assignments.proofs.declared.is_new.Goals as goal

pub returns-clause-holds : goal.returns-clause-holds
returns-clause-holds g c =
    c.note.ensures.holds (g.T.Types.atoms c.args.checker.now.types) c.args.checker.now.names.now refl
    (on-any _ c.new_name-answer.result (c.requires (c.has_stopped.ensures.goes_on c.if-has_stopped.false)))

pub returns-clause-met : goal.returns-clause-met
returns-clause-met g c =
    let env = g.T.Types.atoms c.args.checker.now.types in
    c.note.ensures.runs env c.args.checker.now.names.now (IsNew c.args.name.now) (going env c.args.checker.now.work) refl
    (c.has_stopped.ensures.goes_on c.if-has_stopped.false) (c.new_name-answer.ensures env)
