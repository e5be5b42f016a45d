use Rattle.std.proofs.Common.{◌≡◌, take, true}
use Rattle.std.specs.List.{list_all}
use Rattle.bal_tree.specs.DefRules.{def_is_formed}
use Rattle.bal_tree.proofs.checking.defs.defs.Given as goal

abbrev pub invariant-loop-d : goal.invariant-loop-d
invariant-loop-d l = list_all def_is_formed (take l.d-index l.defs) ≡ true
