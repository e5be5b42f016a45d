use Rattle.std.proofs.Common.{All, take}
use Rattle.type_diagrams.specs.Members.{AllowsLength}
use Rattle.empty_product.proofs.list_atoms.all_allow_length.Given as goal

abbrev pub invariant-loop-atom : goal.invariant-loop-atom
invariant-loop-atom l = All (AllowsLength l.defs l.length) (take l.atom-index l.atoms)
