use Rattle.std.proofs.Common.{◌≡◌, map, take}
use Rattle.typed_tree.specs.Listed.{run, joined}
use Rattle.typed_tree.specs.Nodes.{counted, initialiser_nodes}
use Rattle.typed_tree.proofs.counting.initialisers.Given as goal

abbrev pub invariant-loop-i : goal.invariant-loop-i
invariant-loop-i l = l.count ≡ run counted (joined (map initialiser_nodes (take l.i-index l.initialisers))) l.before
