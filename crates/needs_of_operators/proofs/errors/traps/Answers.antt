use Rattle.expr_needs.specs.Needs.{Traps}
use Rattle.check_work.specs.Views.{going}
use Rattle.check_work.proofs.Noting.{on-both}
use Rattle.needs_of_operators.proofs.errors.traps.Goals as goal

pub trap_part-made-requires : goal.trap_part-made-requires
trap_part-made-requires g c = (c.requires (c.has_stopped.ensures.goes_on c.if-has_stopped.false)).1

pub returns-clause-holds : goal.returns-clause-holds
returns-clause-holds g c =
    let env = g.T.Types.atoms c.args.checker.now.types in
    c.note_made.ensures.holds env c.args.checker.now.names.now c.trap_part-made.ensures.atoms (on-both _ _ c.trap_part-made.result (c.requires (c.has_stopped.ensures.goes_on c.if-has_stopped.false)).0 c.trap_part-made.ensures.stands)

pub returns-clause-met : goal.returns-clause-met
returns-clause-met g c =
    let env = g.T.Types.atoms c.args.checker.now.types in
    c.note_made.ensures.runs env c.args.checker.now.names.now (Traps c.args.at) (going env c.args.checker.now.work) c.trap_part-made.ensures.atoms (c.has_stopped.ensures.goes_on c.if-has_stopped.false)
    c.trap_part-made.ensures.comes
