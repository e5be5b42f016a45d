-- Layers of typed expressions, for search: a definition over a whole tree, by its outermost layer.
use Rattle.typed_tree.specs.declared.expr.TypedExpr.{fold_out-TypedExpr}
use Rattle.typed_tree.specs.declared.expr.TypedExpr.TheViews.{the_lemmas}

pub ruleset expr_layers = (the_lemmas, fold_out-TypedExpr)
