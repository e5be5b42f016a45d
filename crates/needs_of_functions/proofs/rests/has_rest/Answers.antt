use Rattle.std.proofs.Common.{refl}
use Rattle.descriptors.proofs.Yielding.{names-kept}
use Rattle.expr_needs.specs.Needs.{HasRest}
use Rattle.check_work.specs.Views.{going}
use Rattle.needs_of_units.proofs.Answering.{on-stop}
use Rattle.needs_of_functions.proofs.rests.has_rest.Goals as goal

pub add_rest-answer-requires : goal.add_rest-answer-requires
add_rest-answer-requires g c = (c.requires (c.has_stopped.ensures.goes_on c.if-has_stopped.false)).1

pub returns-clause-holds : goal.returns-clause-holds
returns-clause-holds g c =
    let before = c.requires (c.has_stopped.ensures.goes_on c.if-has_stopped.false) in
    c.note.ensures.holds _ c.args.checker.now.names.now refl
    (on-stop _ _ c.add_rest-answer.result (names-kept _ _ c.args.checker.now.names.now c.add_rest-answer.ensures.kept before.0) c.add_rest-answer.ensures.stands)

pub returns-clause-met : goal.returns-clause-met
returns-clause-met g c =
    c.note.ensures.runs _ c.args.checker.now.names.now (HasRest c.args.name.now) (going (g.T.Types.atoms c.args.checker.now.types) c.args.checker.now.work) refl
    (c.has_stopped.ensures.goes_on c.if-has_stopped.false) c.add_rest-answer.ensures.comes
