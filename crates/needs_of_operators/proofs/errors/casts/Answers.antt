use Rattle.expr_needs.specs.Needs.{Casts}
use Rattle.check_work.specs.Views.{going}
use Rattle.check_work.proofs.Noting.{on-both}
use Rattle.needs_of_operators.proofs.errors.casts.Goals as goal

pub cast-made-requires : goal.cast-made-requires
cast-made-requires g c = (c.requires (c.has_stopped.ensures.goes_on c.if-has_stopped.false)).1

pub returns-clause-holds : goal.returns-clause-holds
returns-clause-holds g c =
    let env = g.T.Types.atoms c.args.checker.now.types in
    c.note_made.ensures.holds env c.args.checker.now.names.now c.cast-made.ensures.atoms (on-both _ _ c.cast-made.result (c.requires (c.has_stopped.ensures.goes_on c.if-has_stopped.false)).0 c.cast-made.ensures.stands)

pub returns-clause-met : goal.returns-clause-met
returns-clause-met g c =
    let env = g.T.Types.atoms c.args.checker.now.types in
    c.note_made.ensures.runs env c.args.checker.now.names.now (Casts c.args.at) (going env c.args.checker.now.work) c.cast-made.ensures.atoms (c.has_stopped.ensures.goes_on c.if-has_stopped.false)
    c.cast-made.ensures.comes
