use Rattle.std.proofs.Common.{refl}
use Rattle.expr_needs.specs.Needs.{EndsFunction}
use Rattle.check_work.specs.Views.{going}
use Rattle.needs_of_units.proofs.Answering.{on-stop}
use Rattle.needs_of_units.proofs.functions.ends_function.Goals as goal

pub end_function-answer-requires-clause-own : goal.end_function-answer-requires-clause-own
end_function-answer-requires-clause-own g c = (c.requires (c.has_stopped.ensures.goes_on c.if-has_stopped.false)).0.own

pub end_function-answer-requires-clause-stands : goal.end_function-answer-requires-clause-stands
end_function-answer-requires-clause-stands g c = (c.requires (c.has_stopped.ensures.goes_on c.if-has_stopped.false)).1

pub returns-clause-holds : goal.returns-clause-holds
returns-clause-holds g c =
    let before = c.requires (c.has_stopped.ensures.goes_on c.if-has_stopped.false) in
    c.note.ensures.holds (g.T.Types.atoms c.args.checker.now.types) c.args.checker.now.names.now c.end_function-answer.ensures.atoms (on-stop _ _ c.end_function-answer.result before.0 c.end_function-answer.ensures.stands)

pub returns-clause-met : goal.returns-clause-met
returns-clause-met g c =
    c.note.ensures.runs _ c.args.checker.now.names.now (EndsFunction c.args.d.now c.args.close) (going (g.T.Types.atoms c.args.checker.now.types) c.args.checker.now.work) refl
    (c.has_stopped.ensures.goes_on c.if-has_stopped.false) c.end_function-answer.ensures.comes
