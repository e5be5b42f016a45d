-- The shape that a node is.
use Rattle.bal_base.specs.declared.shape.Shape.{Shape, List as AList, Mapping as AMapping, Error as AnError}
use Rattle.witness.specs.declared.Node.{Node}
use Rattle.witness.specs.declared.Node.TheVariants.{Whole, List as Items, Mapping as Fields, Error as Detail}

abbrev pub shape_of : Node → Shape
shape_of (Whole x) = x
shape_of (Items mark items) = AList mark (record { items = items })
shape_of (Fields mark fields) = AMapping mark (record { items = fields })
shape_of (Detail detail) = AnError detail
