use Rattle.std.proofs.Common.{◌≡◌, take}
use Rattle.type_diagrams.specs.Members.{atoms_in}
use Rattle.type_diagrams.proofs.path.atoms.Given as goal

abbrev pub invariant-loop-literal : goal.invariant-loop-literal
invariant-loop-literal l = l.found.items ≡ atoms_in (take l.literal-index l.literal-items)
