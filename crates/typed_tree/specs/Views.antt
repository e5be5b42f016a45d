-- Typed trees by their parts, without the boxes and vectors that hold them: one view for each variant of an expression.
use Rattle.std.specs.Prelude.{◌≡◌, ℕ, List, Bool}
use Rattle.std.specs.Global.{Box, Vec}
use Rattle.bal_base.specs.declared.place.Place.{Place}
use Rattle.operations.specs.declared.operation.Constant.{Constant}
use Rattle.typed_tree.specs.declared.expr.AnonymousFunction.{AnonymousFunction}
use Rattle.typed_tree.specs.declared.expr.TypedExpr.{TypedExpr, out-TypedExpr}
use Rattle.typed_tree.specs.declared.expr.TypedExpr.TheOpen as layer
use Rattle.typed_tree.specs.declared.form.StrictForm.{StrictForm}
use Rattle.typed_tree.specs.SharedTypes.{Shared}

abbrev pub IsStrict : StrictForm → List TypedExpr → Shared → Place → TypedExpr → Type 0
IsStrict form operands type at e = (v : Vec TypedExpr) × (out-TypedExpr e ≡ layer.Strict form v type at) × (v.items ≡ operands)

abbrev pub IsImplied : Constant → Shared → Place → TypedExpr → Type 0
IsImplied value type at e = out-TypedExpr e ≡ layer.Implied value type at

abbrev pub IsLocal : ℕ → Bool → Shared → Place → TypedExpr → Type 0
IsLocal slot narrowed type at e = out-TypedExpr e ≡ layer.Local slot narrowed type at

abbrev pub IsAnd : TypedExpr → TypedExpr → Shared → Place → TypedExpr → Type 0
IsAnd left right type at e =
    (l r : Box TypedExpr) × (out-TypedExpr e ≡ layer.And l r type at) × (l.value ≡ left) × (r.value ≡ right)

abbrev pub IsOr : TypedExpr → TypedExpr → Shared → Place → TypedExpr → Type 0
IsOr left right type at e =
    (l r : Box TypedExpr) × (out-TypedExpr e ≡ layer.Or l r type at) × (l.value ≡ left) × (r.value ≡ right)

abbrev pub IsConditional : TypedExpr → TypedExpr → TypedExpr → Shared → Place → TypedExpr → Type 0
IsConditional condition middle last type at e =
    (c m l : Box TypedExpr) × (out-TypedExpr e ≡ layer.Conditional c m l type at) × (c.value ≡ condition) × (m.value ≡ middle) × (l.value ≡ last)

abbrev pub IsElvis : ℕ → TypedExpr → TypedExpr → Shared → Place → TypedExpr → Type 0
IsElvis own left right type at e =
    (l r : Box TypedExpr) × (out-TypedExpr e ≡ layer.Elvis own l r type at) × (l.value ≡ left) × (r.value ≡ right)

abbrev pub IsCheck : Bool → ℕ → TypedExpr → Shared → Place → TypedExpr → Type 0
IsCheck panics own operand type at e =
    (o : Box TypedExpr) × (out-TypedExpr e ≡ layer.Check panics own o type at) × (o.value ≡ operand)

abbrev pub IsTrap : TypedExpr → Shared → Place → TypedExpr → Type 0
IsTrap operand type at e = (o : Box TypedExpr) × (out-TypedExpr e ≡ layer.Trap o type at) × (o.value ≡ operand)

abbrev pub IsFunctionOf : AnonymousFunction → TypedExpr → Shared → Place → TypedExpr → Type 0
IsFunctionOf function value type at e =
    (f : Box AnonymousFunction) × (v : Box TypedExpr) × (out-TypedExpr e ≡ layer.Function f v type at) × (f.value ≡ function) × (v.value ≡ value)

abbrev pub IsParens : TypedExpr → Shared → Place → TypedExpr → Type 0
IsParens inner type at e = (i : Box TypedExpr) × (out-TypedExpr e ≡ layer.Parens i type at) × (i.value ≡ inner)
