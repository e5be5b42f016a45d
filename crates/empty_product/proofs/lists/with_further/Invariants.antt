use Rattle.std.proofs.Common.{◌≡◌, ◌++◌, ◌∷◌, map, Some}
use Rattle.empty_product.proofs.lists.with_further.Given as goal

abbrev pub invariant-loop-item : goal.invariant-loop-item
invariant-loop-item l = l.parts.items ≡ l.fn.parts.items ++ map Some (l.fn.first ∷ l.yielded)
