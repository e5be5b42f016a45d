use Rattle.std.proofs.Common.{take}
use Rattle.std.specs.List.{Any}
use Rattle.type_diagrams.specs.Members.{Requires}
use Rattle.empty_product.proofs.mapping_atoms.any_requires.Given as goal

abbrev pub invariant-loop-atom : goal.invariant-loop-atom
invariant-loop-atom l = ¬ Any (Requires l.defs l.key) (take l.atom-index l.atoms)
