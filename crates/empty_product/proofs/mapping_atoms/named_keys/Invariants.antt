use Rattle.std.proofs.Common.{take}
use Rattle.empty_product.specs.Keys.{HasNamedKeys}
use Rattle.empty_product.proofs.mapping_atoms.named_keys.Given as goal

abbrev pub invariant-loop-atom : goal.invariant-loop-atom
invariant-loop-atom l = HasNamedKeys l.defs (take l.atom-index l.atoms) l.keys.items
