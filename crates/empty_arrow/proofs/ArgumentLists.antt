-- Arguments are unmarked lists.
use Rattle.std.proofs.Common.{◌≡◌, false, ap, subst}
use Rattle.bal_base.specs.declared.shape.Shape.TheOpen as layer
use Rattle.bal_base.specs.declared.shape.Shape.{Shape, Shape-F, List as ListOf, out-Shape, roll-Shape, roll-out-Shape}
use Rattle.bal_base.specs.declared.shape.Shapes.{Shapes}
use Rattle.bal_base.specs.declared.shape.Fields.{Fields}
use Rattle.bal_base.specs.declared.shape.Graph.{Graph}
use Rattle.bal_base.specs.declared.shape.Case.{Case}
use denote.Hole.Carrier.{roll}
use Rattle.empty_arrow.specs.Pairs.{IsArguments}

abbrev IsListOf : Shape → Type 0
IsListOf x = IsArguments x → (xs : Shapes) × (x ≡ ListOf false xs)

by_layer : (l : Shape-F Shape Case Fields Graph Shapes) → IsListOf (roll-Shape l)
unfolding roll-Shape roll
by_layer (layer.List mark items) h = (items, ap (λ m. ListOf m items) h)
by_layer layer.Nil h = absurd h
by_layer (layer.Bool b) h = absurd h
by_layer (layer.Int i) h = absurd h
by_layer (layer.Str t) h = absurd h
by_layer (layer.Mapping mark fields) h = absurd h
by_layer (layer.Error detail) h = absurd h
by_layer (layer.Function isolated graph) h = absurd h
by_layer (layer.Future results) h = absurd h

pub arguments-list : (x : Shape) → IsArguments x → (xs : Shapes) × (x ≡ ListOf false xs)
arguments-list x = subst IsListOf (roll-out-Shape x) (by_layer (out-Shape x))
