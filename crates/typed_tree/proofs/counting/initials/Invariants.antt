use Rattle.std.proofs.Common.{◌≡◌, map, take}
use Rattle.typed_tree.specs.Listed.{run, joined}
use Rattle.typed_tree.specs.Nodes.{counted, initial_nodes}
use Rattle.typed_tree.proofs.counting.initials.Given as goal

abbrev pub invariant-loop-i : goal.invariant-loop-i
invariant-loop-i l = l.count ≡ run counted (joined (map initial_nodes (take l.i-index l.initials))) l.before
