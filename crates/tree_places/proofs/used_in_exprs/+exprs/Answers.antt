use Rattle.std.proofs.Common.{arith}
use Rattle.tree_places.specs.Gathered.{gather}
use Rattle.tree_places.specs.UsedInExprs.{used_in_detail, used_in_expr, used_in_member}
use Rattle.typed_tree.proofs.Running.{run-more}
use Rattle.tree_places.proofs.used_in_exprs.+exprs.Goals as goal

pub exprs-loop-e-preserved : goal.exprs-loop-e-preserved
exprs-loop-e-preserved t c =
    run-more gather used_in_expr c.args.es.now c.loop-e.e-index c.e-item.result c.args.names.now.items c.loop-e.names.items c.expr.new.names.items (grind (arith, c.loop-e-test.true)) c.e-item.is c.loop-e.invariant c.in_ok-expr.ensures

pub members-loop-m-preserved : goal.members-loop-m-preserved
members-loop-m-preserved t c =
    run-more gather used_in_member c.args.ms.now c.loop-m.m-index c.m-item.result c.args.names.now.items c.loop-m.names.items c.member.new.names.items (grind (arith, c.loop-m-test.true)) c.m-item.is c.loop-m.invariant c.in_ok-member.ensures

pub details-loop-d-preserved : goal.details-loop-d-preserved
details-loop-d-preserved t c =
    run-more gather used_in_detail c.args.ds.now c.loop-d.d-index c.d-item.result c.args.names.now.items c.loop-d.names.items c.detail.new.names.items (grind (arith, c.loop-d-test.true)) c.d-item.is c.loop-d.invariant c.in_ok-detail.ensures
