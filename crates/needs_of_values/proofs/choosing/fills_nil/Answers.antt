use Rattle.expr_needs.specs.Needs.{FillsNil}
use Rattle.check_work.specs.Views.{going}
use Rattle.check_work.proofs.Noting.{on-both}
use Rattle.needs_of_values.proofs.choosing.fills_nil.Goals as goal

pub fill_nil-made-requires : goal.fill_nil-made-requires
fill_nil-made-requires g c = (c.requires (c.has_stopped.ensures.goes_on c.if-has_stopped.false)).1

pub returns-clause-holds : goal.returns-clause-holds
returns-clause-holds g c =
    let env = g.T.Types.atoms c.args.checker.now.types in
    let before = c.requires (c.has_stopped.ensures.goes_on c.if-has_stopped.false) in
    c.note_made.ensures.holds env c.args.checker.now.names.now c.fill_nil-made.ensures.atoms (on-both _ _ c.fill_nil-made.result before.0 c.fill_nil-made.ensures.stands)

pub returns-clause-met : goal.returns-clause-met
returns-clause-met g c =
    let env = g.T.Types.atoms c.args.checker.now.types in
    c.note_made.ensures.runs env c.args.checker.now.names.now (FillsNil c.args.at) (going env c.args.checker.now.work) c.fill_nil-made.ensures.atoms (c.has_stopped.ensures.goes_on c.if-has_stopped.false)
    c.fill_nil-made.ensures.comes
