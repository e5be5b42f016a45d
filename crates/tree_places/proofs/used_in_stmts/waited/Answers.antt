use Rattle.std.proofs.Common.{arith}
use Rattle.tree_places.specs.Gathered.{gather}
use Rattle.tree_places.specs.UsedInExprs.{local_name}
use Rattle.typed_tree.proofs.Running.{run-more}
use Rattle.tree_places.proofs.used_in_stmts.waited.Goals as goal

pub loop-q-preserved : goal.loop-q-preserved
loop-q-preserved c =
    run-more gather local_name c.args.qs.now c.loop-q.q-index c.q-item.result c.args.names.now.items c.loop-q.names.items c.gather_local.new.names.items (grind (arith, c.loop-q-test.true)) c.q-item.is c.loop-q.invariant c.in_ok-gather_local.ensures
