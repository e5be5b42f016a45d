use Rattle.std.proofs.Common.{◌≡◌, map, take}
use Rattle.typed_tree.specs.Listed.{run, joined}
use Rattle.typed_tree.specs.Nodes.{counted, expr_nodes}
use Rattle.typed_tree.proofs.counting.+expr.Given as goal

abbrev pub invariant-exprs-loop-e : goal.invariant-exprs-loop-e
invariant-exprs-loop-e l = l.count ≡ run counted (joined (map expr_nodes (take l.e-index l.exprs))) l.before
