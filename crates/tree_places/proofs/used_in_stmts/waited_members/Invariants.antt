use Rattle.std.proofs.Common.{◌≡◌, map, take}
use Rattle.typed_tree.specs.Listed.{joined, run}
use Rattle.tree_places.specs.Gathered.{gather}
use Rattle.tree_places.specs.UsedInStmts.{used_in_member_of_wait}
use Rattle.tree_places.proofs.used_in_stmts.waited_members.Given as goal

abbrev pub invariant-loop-m : goal.invariant-loop-m
invariant-loop-m l = l.names.items ≡ run gather (joined (map used_in_member_of_wait (take l.m-index l.ms))) l.initial.names.items
