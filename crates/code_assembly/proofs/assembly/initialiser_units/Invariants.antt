use Rattle.std.proofs.Common.{◌≡◌, map, take}
use Rattle.typed_tree.specs.declared.package.Initialiser.{Initialiser}
use Rattle.code_assembly.proofs.assembly.initialiser_units.Given as goal

abbrev pub invariant-loop-i : goal.invariant-loop-i
invariant-loop-i l = l.numbers.items ≡ map (λ (i : Initialiser). i.unit.number) (take l.i-index l.initialisers)
