use Rattle.std.proofs.Common.{refl}
use Rattle.stmt_needs.specs.PackageTable.{within}
use Rattle.stmt_needs.specs.StmtTable.{is_among}
use Rattle.expr_needs.specs.Needs.{Declares}
use Rattle.check_work.specs.Views.{going}
use Rattle.check_work.proofs.Noting.{on-both}
use Rattle.needs_of_assignments.proofs.declared.declares.Goals as goal

pub returns-clause-holds : goal.returns-clause-holds
returns-clause-holds g c =
    let env = g.T.Types.atoms c.args.checker.now.types in
    let before = c.requires (c.has_stopped.ensures.goes_on c.if-has_stopped.false) in
    c.note_made.ensures.holds env c.args.checker.now.names.now refl (on-both _ _ c.declare_within-made.result before.0 (c.declare_within-made.ensures.stands env before.1))

pub returns-clause-met : goal.returns-clause-met
returns-clause-met g c =
    let env = g.T.Types.atoms c.args.checker.now.types in
    c.note_made.ensures.runs env c.args.checker.now.names.now (Declares c.args.name.now.name c.args.is_final (is_among c.args.name.now.name (within c.args.around).behind) c.args.at) (going env c.args.checker.now.work) refl (c.has_stopped.ensures.goes_on c.if-has_stopped.false)
    (c.declare_within-made.ensures.comes env)
