use Rattle.std.proofs.Common.{refl}
use Rattle.expr_needs.specs.Needs.{EndsWorker}
use Rattle.bal_tree.specs.declared.stmt.Block.{out-Block}
use Rattle.check_work.specs.Views.{going}
use Rattle.needs_of_units.proofs.Answering.{on-stop}
use Rattle.needs_of_units.proofs.workers.ends_worker.Goals as goal

pub end_worker-answer-requires-clause-own : goal.end_worker-answer-requires-clause-own
end_worker-answer-requires-clause-own g c = (c.requires (c.has_stopped.ensures.goes_on c.if-has_stopped.false)).0.own

pub end_worker-answer-requires-clause-stands : goal.end_worker-answer-requires-clause-stands
end_worker-answer-requires-clause-stands g c = (c.requires (c.has_stopped.ensures.goes_on c.if-has_stopped.false)).1

pub returns-clause-holds : goal.returns-clause-holds
returns-clause-holds g c =
    let before = c.requires (c.has_stopped.ensures.goes_on c.if-has_stopped.false) in
    c.note.ensures.holds (g.T.Types.atoms c.args.checker.now.types) c.args.checker.now.names.now c.end_worker-answer.ensures.atoms (on-stop _ _ c.end_worker-answer.result before.0 c.end_worker-answer.ensures.stands)

pub returns-clause-met : goal.returns-clause-met
returns-clause-met g c =
    c.note.ensures.runs _ c.args.checker.now.names.now (EndsWorker c.args.worker.now (out-Block c.args.worker.now.body).close) (going (g.T.Types.atoms c.args.checker.now.types) c.args.checker.now.work) refl
    (c.has_stopped.ensures.goes_on c.if-has_stopped.false) c.end_worker-answer.ensures.comes
