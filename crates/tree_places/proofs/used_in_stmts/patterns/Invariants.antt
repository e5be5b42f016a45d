use Rattle.std.proofs.Common.{◌≡◌, map, take}
use Rattle.typed_tree.specs.Listed.{joined, run}
use Rattle.tree_places.specs.Gathered.{gather}
use Rattle.tree_places.specs.UsedInStmts.{used_in_pattern}
use Rattle.tree_places.proofs.used_in_stmts.patterns.Given as goal

abbrev pub invariant-loop-p : goal.invariant-loop-p
invariant-loop-p l = l.names.items ≡ run gather (joined (map used_in_pattern (take l.p-index l.ps))) l.initial.names.items
