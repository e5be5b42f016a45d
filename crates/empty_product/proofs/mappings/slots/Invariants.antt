use Rattle.std.proofs.Common.{length, take}
use Rattle.std.specs.List.{AllZip}
use Rattle.type_diagrams.specs.Whole.{Extends}
use Rattle.empty_product.specs.Mappings.{IsSlotOf}
use Rattle.empty_product.proofs.mappings.slots.Given as goal

abbrev pub invariant-loop-key : goal.invariant-loop-key
invariant-loop-key l = Extends (length l.env) l.fn.dia l.dia × AllZip (IsSlotOf l.env l.wanted l.marked l.dia) (take l.key-index l.keys) l.slots.items
