use Rattle.std.proofs.Common.{◌≡◌, map, take}
use Rattle.typed_tree.specs.Listed.{run, joined}
use Rattle.typed_tree.specs.Nodes.{counted, pattern_nodes}
use Rattle.typed_tree.proofs.counting.patterns.Given as goal

abbrev pub invariant-loop-p : goal.invariant-loop-p
invariant-loop-p l = l.count ≡ run counted (joined (map pattern_nodes (take l.p-index l.patterns))) l.before
