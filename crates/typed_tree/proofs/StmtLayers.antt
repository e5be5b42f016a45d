-- Layers of typed statements, for search: a definition over a whole tree, by its outermost layer.
use Rattle.typed_tree.specs.declared.stmt.TypedStmt.{fold_out-TypedStmt}
use Rattle.typed_tree.specs.declared.stmt.TypedClause.{fold_out-TypedClause}
use Rattle.typed_tree.specs.declared.stmt.TypedStmt.TheViews.{the_lemmas}

pub ruleset stmt_layers = (the_lemmas, fold_out-TypedStmt, fold_out-TypedClause)
