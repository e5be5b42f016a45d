use Rattle.expr_needs.specs.Needs.{ChecksPanicking}
use Rattle.check_work.specs.Views.{going}
use Rattle.check_work.proofs.Noting.{on-both}
use Rattle.needs_of_operators.proofs.errors.checks_panicking.Goals as goal

pub check_part-made-requires : goal.check_part-made-requires
check_part-made-requires g c = (c.requires (c.has_stopped.ensures.goes_on c.if-has_stopped.false)).1

pub returns-clause-holds : goal.returns-clause-holds
returns-clause-holds g c =
    let env = g.T.Types.atoms c.args.checker.now.types in
    c.note_made.ensures.holds env c.args.checker.now.names.now c.check_part-made.ensures.atoms (on-both _ _ c.check_part-made.result (c.requires (c.has_stopped.ensures.goes_on c.if-has_stopped.false)).0 c.check_part-made.ensures.stands)

pub returns-clause-met : goal.returns-clause-met
returns-clause-met g c =
    let env = g.T.Types.atoms c.args.checker.now.types in
    c.note_made.ensures.runs env c.args.checker.now.names.now (ChecksPanicking c.args.at) (going env c.args.checker.now.work) c.check_part-made.ensures.atoms (c.has_stopped.ensures.goes_on c.if-has_stopped.false)
    c.check_part-made.ensures.comes
