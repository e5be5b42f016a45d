use Rattle.std.proofs.Common.{◌≡◌, map, take}
use Rattle.typed_tree.specs.Listed.{run, joined}
use Rattle.typed_tree.specs.Nodes.{counted, worker_nodes}
use Rattle.typed_tree.proofs.counting.workers.Given as goal

abbrev pub invariant-loop-w : goal.invariant-loop-w
invariant-loop-w l = l.count ≡ run counted (joined (map worker_nodes (take l.w-index l.workers))) l.before
