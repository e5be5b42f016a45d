use Rattle.std.proofs.Common.{refl}
use Rattle.expr_needs.specs.Needs.{CallsMethod}
use Rattle.check_work.specs.Views.{going}
use Rattle.needs_of_calls.proofs.Calling.{on-all}
use Rattle.needs_of_calls.proofs.callees.calls_method.Goals as goal

pub call_method-answer-requires-clause-own : goal.call_method-answer-requires-clause-own
call_method-answer-requires-clause-own g c = (c.requires (c.has_stopped.ensures.goes_on c.if-has_stopped.false)).0.own

pub call_method-answer-requires-clause-stands : goal.call_method-answer-requires-clause-stands
call_method-answer-requires-clause-stands g c = (c.requires (c.has_stopped.ensures.goes_on c.if-has_stopped.false)).1

pub returns-clause-holds : goal.returns-clause-holds
returns-clause-holds g c =
    c.note.ensures.holds (g.T.Types.atoms c.args.checker.now.types) c.args.checker.now.names.now c.call_method-answer.ensures.atoms
    (on-all _ _ c.call_method-answer.result (c.requires (c.has_stopped.ensures.goes_on c.if-has_stopped.false)).0 c.call_method-answer.ensures.stands)

pub returns-clause-met : goal.returns-clause-met
returns-clause-met g c =
    c.note.ensures.runs _ c.args.checker.now.names.now (CallsMethod c.args.method.now c.args.count c.args.at) (going (g.T.Types.atoms c.args.checker.now.types) c.args.checker.now.work) refl
    (c.has_stopped.ensures.goes_on c.if-has_stopped.false) c.call_method-answer.ensures.comes
