-- Layers of statements, for search: a definition over a whole tree, by its outermost layer.
use Rattle.bal_tree.specs.declared.stmt.Else.{fold_out-Else}
use Rattle.bal_tree.specs.declared.stmt.Stmt.{fold_out-Stmt}
use Rattle.bal_tree.specs.declared.stmt.Block.{fold_out-Block}
use Rattle.bal_tree.specs.declared.stmt.Clause.{fold_out-Clause}
use Rattle.bal_tree.specs.declared.stmt.IfStmt.{fold_out-IfStmt}
use Rattle.bal_tree.specs.declared.stmt.Else.TheViews.{the_lemmas}

pub ruleset stmt_layers = (the_lemmas, fold_out-Else, fold_out-Stmt, fold_out-Block, fold_out-Clause, fold_out-IfStmt)
