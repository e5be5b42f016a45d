use Rattle.std.proofs.Common.{◌≡◌, map, take}
use Rattle.empty_product.specs.declared.slots.Slot.TheVariants.{Present}
use Rattle.empty_product.proofs.lists.bases_slots.Given as goal

abbrev pub invariant-loop-base : goal.invariant-loop-base
invariant-loop-base l = l.slots.items ≡ map Present (take l.base-index l.bases)
