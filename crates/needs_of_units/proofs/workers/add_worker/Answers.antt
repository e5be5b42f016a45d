use Rattle.std.proofs.Common.{ap}
use Rattle.bal_tree.specs.declared.stmt.Block.{out-Block}
use Rattle.check_words.proofs.Standing.{stands-beside}
use Rattle.check_work.specs.Views.{block_of, state_of, unit_of}
use Rattle.needs_of_units.proofs.Working.{worker-added}
use Rattle.needs_of_units.proofs.workers.add_worker.Goals as goal

pub returns-clause-stands : goal.returns-clause-stands
returns-clause-stands c = λ env h. stands-beside _ (c.in_ok-block.ensures.stands env h) _ _ _ _

pub returns-clause-comes : goal.returns-clause-comes
returns-clause-comes c = λ env.
    worker-added (state_of env c.args.work.now) _ (block_of c.in_ok-block.block) (c.in_ok-block.ensures.comes env) c.args.w.now (unit_of c.args.unit)
    (out-Block c.args.w.now.body).close c.typed_worker-made.result c.typed_worker-made.ensures.worker (ap (λ v. v.items) c.typed_worker-made.ensures.stmts)
    c.typed_worker-made.ensures.close _ c.in_ok-push.ensures.items
