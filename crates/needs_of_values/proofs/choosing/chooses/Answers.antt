use Rattle.expr_needs.specs.Needs.{Chooses}
use Rattle.check_work.specs.Views.{going}
use Rattle.check_work.proofs.Noting.{on-both}
use Rattle.needs_of_values.proofs.choosing.chooses.Goals as goal

pub choose-made-requires : goal.choose-made-requires
choose-made-requires g c = (c.requires (c.has_stopped.ensures.goes_on c.if-has_stopped.false)).1

pub returns-clause-holds : goal.returns-clause-holds
returns-clause-holds g c =
    let env = g.T.Types.atoms c.args.checker.now.types in
    let before = c.requires (c.has_stopped.ensures.goes_on c.if-has_stopped.false) in
    c.note_made.ensures.holds env c.args.checker.now.names.now c.choose-made.ensures.atoms (on-both _ _ c.choose-made.result before.0 c.choose-made.ensures.stands)

pub returns-clause-met : goal.returns-clause-met
returns-clause-met g c =
    let env = g.T.Types.atoms c.args.checker.now.types in
    c.note_made.ensures.runs env c.args.checker.now.names.now (Chooses c.args.at) (going env c.args.checker.now.work) c.choose-made.ensures.atoms (c.has_stopped.ensures.goes_on c.if-has_stopped.false)
    c.choose-made.ensures.comes
