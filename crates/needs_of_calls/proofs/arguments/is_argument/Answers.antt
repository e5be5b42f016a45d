use Rattle.std.proofs.Common.{refl}
use Rattle.expr_needs.specs.Needs.{IsArgument}
use Rattle.check_work.specs.Views.{going}
use Rattle.needs_of_calls.proofs.Calling.{on-all}
use Rattle.needs_of_calls.proofs.arguments.is_argument.Goals as goal

pub take_argument-answer-requires : goal.take_argument-answer-requires
take_argument-answer-requires g c = (c.requires (c.has_stopped.ensures.goes_on c.if-has_stopped.false)).1

pub returns-clause-holds : goal.returns-clause-holds
returns-clause-holds g c =
    c.note.ensures.holds (g.T.Types.atoms c.args.checker.now.types) c.args.checker.now.names.now c.take_argument-answer.ensures.atoms
    (on-all _ _ c.take_argument-answer.result (c.requires (c.has_stopped.ensures.goes_on c.if-has_stopped.false)).0 c.take_argument-answer.ensures.stands)

pub returns-clause-met : goal.returns-clause-met
returns-clause-met g c =
    c.note.ensures.runs _ c.args.checker.now.names.now (IsArgument c.args.at) (going (g.T.Types.atoms c.args.checker.now.types) c.args.checker.now.work) refl
    (c.has_stopped.ensures.goes_on c.if-has_stopped.false) c.take_argument-answer.ensures.comes
