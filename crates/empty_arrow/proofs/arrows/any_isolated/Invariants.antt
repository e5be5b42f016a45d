use Rattle.std.proofs.Common.{◌≡◌, take, false}
use Rattle.std.specs.List.{list_any}
use Rattle.empty_arrow.specs.Arrows.{is_isolated}
use Rattle.empty_arrow.proofs.arrows.any_isolated.Given as goal

abbrev pub invariant-loop-atom : goal.invariant-loop-atom
invariant-loop-atom l = list_any (is_isolated l.defs) (take l.atom-index l.atoms) ≡ false
