use Rattle.std.proofs.Common.{refl}
use Rattle.expr_needs.specs.Needs.{ReturnsNil}
use Rattle.check_work.specs.Views.{going}
use Rattle.needs_of_statements.proofs.Answering.{on-answer}
use Rattle.needs_of_statements.proofs.endings.returns_nil.Goals as goal

pub give_nil-answer-requires-clause-own : goal.give_nil-answer-requires-clause-own
give_nil-answer-requires-clause-own g c = (c.requires (c.has_stopped.ensures.goes_on c.if-has_stopped.false)).0.own

pub give_nil-answer-requires-clause-stands : goal.give_nil-answer-requires-clause-stands
give_nil-answer-requires-clause-stands g c = (c.requires (c.has_stopped.ensures.goes_on c.if-has_stopped.false)).1

pub returns-clause-holds : goal.returns-clause-holds
returns-clause-holds g c =
    let before = c.requires (c.has_stopped.ensures.goes_on c.if-has_stopped.false) in
    c.note.ensures.holds (g.T.Types.atoms c.args.checker.now.types) c.args.checker.now.names.now c.give_nil-answer.ensures.atoms
    (on-answer _ _ c.give_nil-answer.result before.0 c.give_nil-answer.ensures.stands)

pub returns-clause-met : goal.returns-clause-met
returns-clause-met g c =
    c.note.ensures.runs _ c.args.checker.now.names.now (ReturnsNil c.args.at) (going (g.T.Types.atoms c.args.checker.now.types) c.args.checker.now.work) refl
    (c.has_stopped.ensures.goes_on c.if-has_stopped.false) c.give_nil-answer.ensures.comes
