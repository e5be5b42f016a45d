-- The place and the type of a typed expression.
use Rattle.bal_base.specs.declared.place.Place.{Place}
use Rattle.typed_tree.specs.declared.expr.TypedExpr.{TypedExpr, out-TypedExpr}
use Rattle.typed_tree.specs.declared.expr.TypedExpr.TheOpen as layer
use Rattle.typed_tree.specs.ExprLayers.{TypedExprOf}
use Rattle.typed_tree.specs.SharedTypes.{Shared}

abbrev place_in : {A : Type 0} → TypedExprOf A → Place
place_in (layer.Strict form operands type at) = at
place_in (layer.Implied value type at) = at
place_in (layer.Local slot narrowed type at) = at
place_in (layer.And left right type at) = at
place_in (layer.Or left right type at) = at
place_in (layer.Conditional condition middle last type at) = at
place_in (layer.Elvis own left right type at) = at
place_in (layer.Check panics own operand type at) = at
place_in (layer.Trap operand type at) = at
place_in (layer.Function function value type at) = at
place_in (layer.Parens inner type at) = at

abbrev type_in : {A : Type 0} → TypedExprOf A → Shared
type_in (layer.Strict form operands type at) = type
type_in (layer.Implied value type at) = type
type_in (layer.Local slot narrowed type at) = type
type_in (layer.And left right type at) = type
type_in (layer.Or left right type at) = type
type_in (layer.Conditional condition middle last type at) = type
type_in (layer.Elvis own left right type at) = type
type_in (layer.Check panics own operand type at) = type
type_in (layer.Trap operand type at) = type
type_in (layer.Function function value type at) = type
type_in (layer.Parens inner type at) = type

-- the place of its first token
abbrev pub place_of : TypedExpr → Place
place_of e = place_in (out-TypedExpr e)

-- its type, as nodes share it
abbrev pub type_of : TypedExpr → Shared
type_of e = type_in (out-TypedExpr e)
