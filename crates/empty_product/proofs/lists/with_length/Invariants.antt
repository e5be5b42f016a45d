use Rattle.std.proofs.Common.{take}
use Rattle.type_diagrams.specs.Members.{AllowsLength}
use Rattle.empty_product.specs.Lists.{AreThose}
use Rattle.empty_product.proofs.lists.with_length.Given as goal

abbrev pub invariant-loop-atom : goal.invariant-loop-atom
invariant-loop-atom l = AreThose (AllowsLength l.defs l.length) (take l.atom-index l.atoms) l.found.items
