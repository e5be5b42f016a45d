use Rattle.std.proofs.Common.{refl}
use Rattle.expr_needs.specs.Needs.{NamesParameter}
use Rattle.stmt_needs.specs.PackageTable.{assigned_in_body}
use Rattle.stmt_needs.specs.StmtTable.{is_among}
use Rattle.check_work.specs.Views.{going}
use Rattle.needs_of_units.proofs.Answering.{on-stop}
use Rattle.needs_of_units.proofs.parameters.names_parameter.Goals as goal

pub returns-clause-holds : goal.returns-clause-holds
returns-clause-holds g c =
    let env = g.T.Types.atoms c.args.checker.now.types in
    let before = c.requires (c.has_stopped.ensures.goes_on c.if-has_stopped.false) in
    c.note.ensures.holds env c.args.checker.now.names.now refl (on-stop _ _ c.name_in_body-answer.result before.0 (c.name_in_body-answer.ensures.stands env before.1))

pub returns-clause-met : goal.returns-clause-met
returns-clause-met g c =
    let env = g.T.Types.atoms c.args.checker.now.types in
    c.note.ensures.runs env c.args.checker.now.names.now (NamesParameter c.args.name.now (is_among c.args.name.now.name (assigned_in_body c.args.body.now))) (going env c.args.checker.now.work) refl (c.has_stopped.ensures.goes_on c.if-has_stopped.false)
    (c.name_in_body-answer.ensures.comes env)
