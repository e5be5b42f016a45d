use Rattle.std.proofs.Common.{refl}
use Rattle.expr_needs.specs.Needs.{IsCounter}
use Rattle.check_work.specs.Views.{going}
use Rattle.needs_of_loops.proofs.Answered.{on-any}
use Rattle.needs_of_loops.proofs.counters.is_counter.Goals as goal

pub require_counter-answer-requires-clause-own : goal.require_counter-answer-requires-clause-own
require_counter-answer-requires-clause-own g c = (c.requires (c.has_stopped.ensures.goes_on c.if-has_stopped.false)).0.own

pub require_counter-answer-requires-clause-stands : goal.require_counter-answer-requires-clause-stands
require_counter-answer-requires-clause-stands g c = (c.requires (c.has_stopped.ensures.goes_on c.if-has_stopped.false)).1

pub returns-clause-holds : goal.returns-clause-holds
returns-clause-holds g c =
    c.note.ensures.holds (g.T.Types.atoms c.args.checker.now.types) c.args.checker.now.names.now c.require_counter-answer.ensures.atoms
    (on-any _ c.require_counter-answer.result (c.requires (c.has_stopped.ensures.goes_on c.if-has_stopped.false)))

pub returns-clause-met : goal.returns-clause-met
returns-clause-met g c =
    c.note.ensures.runs _ c.args.checker.now.names.now (IsCounter c.args.at) (going (g.T.Types.atoms c.args.checker.now.types) c.args.checker.now.work) refl
    (c.has_stopped.ensures.goes_on c.if-has_stopped.false) c.require_counter-answer.ensures.comes
