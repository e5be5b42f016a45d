use Rattle.std.proofs.Common.{◌≡◌, take}
use Rattle.std.specs.List.{Any}
use Rattle.empty_product.specs.Keys.{AreInOrder, HasAdded}
use Rattle.empty_product.proofs.mapping_atoms.add_keys.Given as goal

abbrev pub invariant-loop-field : goal.invariant-loop-field
invariant-loop-field l =
    AreInOrder l.keys.items × HasAdded (λ key. Any (λ f. f.name ≡ key) (take l.field-index l.fields)) l.fn.keys.items l.keys.items
