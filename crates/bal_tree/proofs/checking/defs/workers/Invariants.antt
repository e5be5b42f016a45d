use Rattle.std.proofs.Common.{◌≡◌, take, true}
use Rattle.std.specs.List.{list_all}
use Rattle.bal_tree.specs.DefRules.{worker_is_formed}
use Rattle.bal_tree.proofs.checking.defs.workers.Given as goal

abbrev pub invariant-loop-w : goal.invariant-loop-w
invariant-loop-w l = list_all worker_is_formed (take l.w-index l.workers) ≡ true
