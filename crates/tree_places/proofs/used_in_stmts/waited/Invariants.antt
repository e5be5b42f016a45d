use Rattle.std.proofs.Common.{◌≡◌, map, take}
use Rattle.typed_tree.specs.Listed.{joined, run}
use Rattle.tree_places.specs.Gathered.{gather}
use Rattle.tree_places.specs.UsedInExprs.{local_name}
use Rattle.tree_places.proofs.used_in_stmts.waited.Given as goal

abbrev pub invariant-loop-q : goal.invariant-loop-q
invariant-loop-q l = l.names.items ≡ run gather (joined (map local_name (take l.q-index l.qs))) l.initial.names.items
