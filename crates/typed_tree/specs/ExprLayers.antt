-- Layers of typed expressions: a tree with something in place of each part, and what a step makes of a whole one.
use Rattle.typed_tree.specs.declared.expr.TypedExpr.{TypedExpr, TypedExpr-F, fold-TypedExpr}

module _ (A : Type 0) where
  abbrev pub TypedExprOf : Type 0
  TypedExprOf = TypedExpr-F A

module _ {A : Type 0} where
  abbrev pub of_typed_expr : (TypedExprOf A → A) → TypedExpr → A
  of_typed_expr step = fold-TypedExpr A step
