use Rattle.std.proofs.Common.{refl}
use Rattle.expr_needs.specs.Needs.{IsOperand}
use Rattle.check_work.specs.Views.{going}
use Rattle.needs_of_members.proofs.Answered.{both-on}
use Rattle.needs_of_members.proofs.operands.is_operand.Goals as goal

pub require_operand-answer-requires-clause-own : goal.require_operand-answer-requires-clause-own
require_operand-answer-requires-clause-own g c = (c.requires (c.has_stopped.ensures.goes_on c.if-has_stopped.false)).0.own

pub require_operand-answer-requires-clause-stands : goal.require_operand-answer-requires-clause-stands
require_operand-answer-requires-clause-stands g c = (c.requires (c.has_stopped.ensures.goes_on c.if-has_stopped.false)).1

pub returns-clause-holds : goal.returns-clause-holds
returns-clause-holds g c =
    let before = c.requires (c.has_stopped.ensures.goes_on c.if-has_stopped.false) in
    c.note.ensures.holds (g.T.Types.atoms c.args.checker.now.types) c.args.checker.now.names.now c.require_operand-answer.ensures.atoms (both-on _ _ c.require_operand-answer.result before.0 c.require_operand-answer.ensures.stands)

pub returns-clause-met : goal.returns-clause-met
returns-clause-met g c =
    c.note.ensures.runs _ c.args.checker.now.names.now (IsOperand c.args.op c.args.at) (going (g.T.Types.atoms c.args.checker.now.types) c.args.checker.now.work) refl
    (c.has_stopped.ensures.goes_on c.if-has_stopped.false) c.require_operand-answer.ensures.comes
