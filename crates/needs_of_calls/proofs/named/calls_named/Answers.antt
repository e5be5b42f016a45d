use Rattle.std.proofs.Common.{refl}
use Rattle.expr_needs.specs.Needs.{CallsNamed}
use Rattle.check_work.specs.Views.{going}
use Rattle.needs_of_calls.proofs.Calling.{on-all}
use Rattle.needs_of_calls.proofs.named.calls_named.Goals as goal

pub call_named-answer-requires-clause-names : goal.call_named-answer-requires-clause-names
call_named-answer-requires-clause-names g c = (c.requires (c.has_stopped.ensures.goes_on c.if-has_stopped.false)).0

pub call_named-answer-requires-clause-stands : goal.call_named-answer-requires-clause-stands
call_named-answer-requires-clause-stands g c = (c.requires (c.has_stopped.ensures.goes_on c.if-has_stopped.false)).1

pub returns-clause-holds : goal.returns-clause-holds
returns-clause-holds g c =
    c.note.ensures.holds (g.T.Types.atoms c.args.checker.now.types) c.args.checker.now.names.now c.call_named-answer.ensures.atoms
    (on-all _ _ c.call_named-answer.result (c.requires (c.has_stopped.ensures.goes_on c.if-has_stopped.false)).0 c.call_named-answer.ensures.stands)

pub returns-clause-met : goal.returns-clause-met
returns-clause-met g c =
    c.note.ensures.runs _ c.args.checker.now.names.now (CallsNamed c.args.started c.args.name.now c.args.count c.args.at) (going (g.T.Types.atoms c.args.checker.now.types) c.args.checker.now.work) refl
    (c.has_stopped.ensures.goes_on c.if-has_stopped.false) c.call_named-answer.ensures.comes
