use Rattle.std.proofs.Common.{◌≡◌, map, take}
use Rattle.typed_tree.specs.Listed.{run, joined}
use Rattle.typed_tree.specs.Nodes.{counted, function_nodes}
use Rattle.typed_tree.proofs.counting.functions.Given as goal

abbrev pub invariant-loop-f : goal.invariant-loop-f
invariant-loop-f l = l.count ≡ run counted (joined (map function_nodes (take l.f-index l.functions))) l.before
