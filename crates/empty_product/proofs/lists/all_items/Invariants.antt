use Rattle.std.proofs.Common.{◌≡◌, map, Some}
use Rattle.empty_product.proofs.lists.all_items.Given as goal

abbrev pub invariant-loop-part : goal.invariant-loop-part
invariant-loop-part l = l.yielded ≡ map Some l.items.items
