use Rattle.std.specs.List.{AllZip}
use Rattle.empty_product.specs.Cells.{IsAimOf}
use Rattle.empty_product.proofs.cells.aim.Given as goal

abbrev pub invariant-loop-atom : goal.invariant-loop-atom
invariant-loop-atom l = AllZip (IsAimOf l.target) l.yielded l.aimed.items
