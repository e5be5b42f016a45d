use Rattle.std.proofs.Common.{refl}
use Rattle.expr_needs.specs.Needs.{EntersFile}
use Rattle.check_work.specs.Views.{going}
use Rattle.needs_of_units.proofs.modules.enters_file.Goals as goal

pub returns-clause-holds : goal.returns-clause-holds
returns-clause-holds g c =
    let env = g.T.Types.atoms c.args.checker.now.types in
    let before = c.requires (c.has_stopped.ensures.goes_on c.if-has_stopped.false) in
    c.note_made.ensures.holds env c.args.checker.now.names.now refl (before.0, c.enter_file.ensures.stands env before.1)

pub returns-clause-met : goal.returns-clause-met
returns-clause-met g c =
    let env = g.T.Types.atoms c.args.checker.now.types in
    c.note_made.ensures.runs env c.args.checker.now.names.now (EntersFile c.args.number c.args.file) (going env c.args.checker.now.work) refl
    (c.has_stopped.ensures.goes_on c.if-has_stopped.false) (c.enter_file.ensures.comes env)
