use Rattle.std.proofs.Common.{arith}
use Rattle.tree_places.specs.Gathered.{gather}
use Rattle.tree_places.specs.UsedInStmts.{used_in_member_of_wait}
use Rattle.typed_tree.proofs.Running.{run-more}
use Rattle.tree_places.proofs.used_in_stmts.waited_members.Goals as goal

pub loop-m-preserved : goal.loop-m-preserved
loop-m-preserved c =
    run-more gather used_in_member_of_wait c.args.ms.now c.loop-m.m-index c.m-item.result c.args.names.now.items c.loop-m.names.items c.gather_local.new.names.items (grind (arith, c.loop-m-test.true)) c.m-item.is c.loop-m.invariant c.in_ok-gather_local.ensures
