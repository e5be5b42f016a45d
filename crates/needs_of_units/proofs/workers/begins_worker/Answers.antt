use Rattle.std.proofs.Common.{refl}
use Rattle.expr_needs.specs.Needs.{BeginsWorker}
use Rattle.tree_places.specs.UsedInStmts.{used_in_block}
use Rattle.typed_tree.specs.Listed.{members}
use Rattle.check_work.specs.Views.{going}
use Rattle.needs_of_units.proofs.Answering.{on-stop}
use Rattle.needs_of_units.proofs.workers.begins_worker.Goals as goal

pub returns-clause-holds : goal.returns-clause-holds
returns-clause-holds g c =
    let env = g.T.Types.atoms c.args.checker.now.types in
    let before = c.requires (c.has_stopped.ensures.goes_on c.if-has_stopped.false) in
    c.note.ensures.holds env c.args.checker.now.names.now refl (on-stop _ _ c.begin_worker-answer.result before.0 (c.begin_worker-answer.ensures.stands env before.1))

pub returns-clause-met : goal.returns-clause-met
returns-clause-met g c =
    let env = g.T.Types.atoms c.args.checker.now.types in
    c.note.ensures.runs env c.args.checker.now.names.now (BeginsWorker c.args.worker.now c.args.number (members (used_in_block c.args.worker.now.body))) (going env c.args.checker.now.work) refl (c.has_stopped.ensures.goes_on c.if-has_stopped.false)
    (c.begin_worker-answer.ensures.comes env)
