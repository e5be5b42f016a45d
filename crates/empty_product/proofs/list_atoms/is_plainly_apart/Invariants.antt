use Rattle.std.proofs.Common.{◌≡◌, ℕ, ◌<◌, length, slice_get, Some}
use Rattle.type_diagrams.specs.Conditions.{IsNothing, and_of}
use Rattle.type_diagrams.specs.Members.{item_of}
use Rattle.type_diagrams.specs.Tables.{condition}
use Rattle.type_diagrams.specs.Whole.{Extends}
use Rattle.empty_product.proofs.list_atoms.is_plainly_apart.Given as goal

abbrev pub invariant-loop-place : goal.invariant-loop-place
invariant-loop-place l =
    Extends (length l.env) l.fn.dia l.dia
    × ((k q : ℕ) → k < l.place → slice_get l.fixed k ≡ Some q → ¬ IsNothing (and_of (item_of l.env k l.atom) (condition l.fn.dia q)))
