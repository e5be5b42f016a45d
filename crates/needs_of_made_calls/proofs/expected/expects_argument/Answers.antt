use Rattle.std.proofs.Common.{refl}
use Rattle.expr_needs.specs.Needs.{ExpectsArgument}
use Rattle.check_work.specs.Views.{going}
use Rattle.needs_of_made_calls.proofs.Answering.{on-both}
use Rattle.needs_of_made_calls.proofs.expected.expects_argument.Goals as goal

pub expect_argument-answer-requires-clause-own : goal.expect_argument-answer-requires-clause-own
expect_argument-answer-requires-clause-own g c = (c.requires (c.has_stopped.ensures.goes_on c.if-has_stopped.false)).0.own

pub expect_argument-answer-requires-clause-stands : goal.expect_argument-answer-requires-clause-stands
expect_argument-answer-requires-clause-stands g c = (c.requires (c.has_stopped.ensures.goes_on c.if-has_stopped.false)).1

pub returns-clause-holds : goal.returns-clause-holds
returns-clause-holds g c =
    c.note.ensures.holds (g.T.Types.atoms c.args.checker.now.types) c.args.checker.now.names.now c.expect_argument-answer.ensures.atoms
    (on-both _ _ c.expect_argument-answer.result (c.requires (c.has_stopped.ensures.goes_on c.if-has_stopped.false)).0 c.expect_argument-answer.ensures.stands)

pub returns-clause-met : goal.returns-clause-met
returns-clause-met g c =
    c.note.ensures.runs _ c.args.checker.now.names.now (ExpectsArgument c.args.at) (going (g.T.Types.atoms c.args.checker.now.types) c.args.checker.now.work) refl
    (c.has_stopped.ensures.goes_on c.if-has_stopped.false) c.expect_argument-answer.ensures.comes
