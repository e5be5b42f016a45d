use Rattle.expr_needs.specs.Needs.{WaitsForAny}
use Rattle.check_work.specs.Views.{going}
use Rattle.check_work.proofs.Noting.{on-both}
use Rattle.needs_of_actions.proofs.waits.waits_for_any.Goals as goal

pub wait_for_any-made-requires : goal.wait_for_any-made-requires
wait_for_any-made-requires g c = (c.requires (c.has_stopped.ensures.goes_on c.if-has_stopped.false)).1

pub returns-clause-holds : goal.returns-clause-holds
returns-clause-holds g c =
    let env = g.T.Types.atoms c.args.checker.now.types in
    c.note_made.ensures.holds env c.args.checker.now.names.now c.wait_for_any-made.ensures.atoms (on-both _ _ c.wait_for_any-made.result (c.requires (c.has_stopped.ensures.goes_on c.if-has_stopped.false)).0 c.wait_for_any-made.ensures.stands)

pub returns-clause-met : goal.returns-clause-met
returns-clause-met g c =
    let env = g.T.Types.atoms c.args.checker.now.types in
    c.note_made.ensures.runs env c.args.checker.now.names.now (WaitsForAny c.args.names.now c.args.at) (going env c.args.checker.now.work) c.wait_for_any-made.ensures.atoms (c.has_stopped.ensures.goes_on c.if-has_stopped.false)
    c.wait_for_any-made.ensures.comes
