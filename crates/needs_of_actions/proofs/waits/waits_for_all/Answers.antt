use Rattle.std.proofs.Common.{map, refl}
use Rattle.descriptors.proofs.Yielding.{names-kept}
use Rattle.expr_needs.specs.Needs.{WaitsForAll}
use Rattle.check_work.specs.Views.{going}
use Rattle.needs_of_actions.proofs.Asked.{both-on}
use Rattle.needs_of_actions.proofs.waits.waits_for_all.Goals as goal

pub wait_for_all-answer-requires : goal.wait_for_all-answer-requires
wait_for_all-answer-requires g c = (c.requires (c.has_stopped.ensures.goes_on c.if-has_stopped.false)).1

pub returns-clause-holds : goal.returns-clause-holds
returns-clause-holds g c =
    let names = c.args.checker.now.names.now in
    c.note.ensures.holds _ names refl
    (both-on _ _ c.wait_for_all-answer.result
    (names-kept (g.T.Types.atoms c.args.checker.now.types) _ names c.wait_for_all-answer.ensures.kept (c.requires (c.has_stopped.ensures.goes_on c.if-has_stopped.false)).0)
    c.wait_for_all-answer.ensures.stands)

pub returns-clause-met : goal.returns-clause-met
returns-clause-met g c =
    c.note.ensures.runs _ c.args.checker.now.names.now (WaitsForAll (map (λ m. m.name) c.args.members.now) c.args.at) (going (g.T.Types.atoms c.args.checker.now.types) c.args.checker.now.work) refl
    (c.has_stopped.ensures.goes_on c.if-has_stopped.false) c.wait_for_all-answer.ensures.comes
