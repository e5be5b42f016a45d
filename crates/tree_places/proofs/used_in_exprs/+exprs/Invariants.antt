use Rattle.std.proofs.Common.{◌≡◌, map, take}
use Rattle.typed_tree.specs.Listed.{joined, run}
use Rattle.tree_places.specs.Gathered.{gather}
use Rattle.tree_places.specs.UsedInExprs.{used_in_detail, used_in_expr, used_in_member}
use Rattle.tree_places.proofs.used_in_exprs.+exprs.Given as goal

abbrev pub invariant-exprs-loop-e : goal.invariant-exprs-loop-e
invariant-exprs-loop-e l = l.names.items ≡ run gather (joined (map used_in_expr (take l.e-index l.es))) l.initial.names.items

abbrev pub invariant-members-loop-m : goal.invariant-members-loop-m
invariant-members-loop-m l = l.names.items ≡ run gather (joined (map used_in_member (take l.m-index l.ms))) l.initial.names.items

abbrev pub invariant-details-loop-d : goal.invariant-details-loop-d
invariant-details-loop-d l = l.names.items ≡ run gather (joined (map used_in_detail (take l.d-index l.ds))) l.initial.names.items
