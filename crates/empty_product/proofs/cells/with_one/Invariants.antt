use Rattle.std.proofs.Common.{◌≡◌, take}
use Rattle.empty_product.specs.Cells.{demands_in}
use Rattle.empty_product.proofs.cells.with_one.Given as goal

abbrev pub invariant-loop-atom : goal.invariant-loop-atom
invariant-loop-atom l = demands_in l.all.items ≡ demands_in (take l.atom-index l.atoms)
