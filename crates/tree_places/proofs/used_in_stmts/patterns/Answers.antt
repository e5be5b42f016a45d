use Rattle.std.proofs.Common.{arith}
use Rattle.tree_places.specs.Gathered.{gather}
use Rattle.tree_places.specs.UsedInStmts.{used_in_pattern}
use Rattle.typed_tree.proofs.Running.{run-more}
use Rattle.tree_places.proofs.used_in_stmts.patterns.Goals as goal

pub loop-p-preserved : goal.loop-p-preserved
loop-p-preserved c =
    run-more gather used_in_pattern c.args.ps.now c.loop-p.p-index c.p-item.result c.args.names.now.items c.loop-p.names.items c.pattern.new.names.items (grind (arith, c.loop-p-test.true)) c.p-item.is c.loop-p.invariant c.in_ok-pattern.ensures
