use Rattle.std.proofs.Common.{refl}
use Rattle.descriptors.proofs.Yielding.{names-kept}
use Rattle.expr_needs.specs.Needs.{MakesCall}
use Rattle.check_work.specs.Views.{going}
use Rattle.needs_of_made_calls.proofs.Answering.{on-both}
use Rattle.needs_of_made_calls.proofs.made.makes_call.Goals as goal

pub make_call-answer-requires-clause-own : goal.make_call-answer-requires-clause-own
make_call-answer-requires-clause-own g c = (c.requires (c.has_stopped.ensures.goes_on c.if-has_stopped.false)).0.own

pub make_call-answer-requires-clause-stands : goal.make_call-answer-requires-clause-stands
make_call-answer-requires-clause-stands g c = (c.requires (c.has_stopped.ensures.goes_on c.if-has_stopped.false)).1

pub returns-clause-holds : goal.returns-clause-holds
returns-clause-holds g c =
    let before = c.requires (c.has_stopped.ensures.goes_on c.if-has_stopped.false) in
    c.note.ensures.holds _ c.args.checker.now.names.now refl
    (on-both _ _ c.make_call-answer.result (names-kept _ _ c.args.checker.now.names.now c.make_call-answer.ensures.kept before.0) c.make_call-answer.ensures.stands)

pub returns-clause-met : goal.returns-clause-met
returns-clause-met g c =
    c.note.ensures.runs _ c.args.checker.now.names.now (MakesCall c.args.at) (going (g.T.Types.atoms c.args.checker.now.types) c.args.checker.now.work) refl
    (c.has_stopped.ensures.goes_on c.if-has_stopped.false) c.make_call-answer.ensures.comes
