use Rattle.std.proofs.Common.{refl}
use Rattle.descriptors.proofs.Yielding.{names-kept}
use Rattle.expr_needs.specs.Needs.{Starts}
use Rattle.check_work.specs.Views.{going}
use Rattle.needs_of_made_calls.proofs.Answering.{on-both}
use Rattle.needs_of_made_calls.proofs.started.starts.Goals as goal

pub start-answer-requires : goal.start-answer-requires
start-answer-requires g c = (c.requires (c.has_stopped.ensures.goes_on c.if-has_stopped.false)).1

pub returns-clause-holds : goal.returns-clause-holds
returns-clause-holds g c =
    let before = c.requires (c.has_stopped.ensures.goes_on c.if-has_stopped.false) in
    c.note.ensures.holds _ c.args.checker.now.names.now refl
    (on-both _ _ c.start-answer.result (names-kept _ _ c.args.checker.now.names.now c.start-answer.ensures.kept before.0) c.start-answer.ensures.stands)

pub returns-clause-met : goal.returns-clause-met
returns-clause-met g c =
    c.note.ensures.runs _ c.args.checker.now.names.now (Starts c.args.here c.args.at) (going (g.T.Types.atoms c.args.checker.now.types) c.args.checker.now.work) refl
    (c.has_stopped.ensures.goes_on c.if-has_stopped.false) c.start-answer.ensures.comes
