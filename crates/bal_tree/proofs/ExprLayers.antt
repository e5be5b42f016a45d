-- Layers of expressions, for search: a definition over a whole tree, by its outermost layer.
use Rattle.bal_tree.specs.declared.expr.Call.{fold_out-Call}
use Rattle.bal_tree.specs.declared.expr.Expr.{fold_out-Expr}
use Rattle.bal_tree.specs.declared.expr.Key.{fold_out-Key}
use Rattle.bal_tree.specs.declared.expr.Postfix.{fold_out-Postfix}
use Rattle.bal_tree.specs.declared.expr.Primary.{fold_out-Primary}
use Rattle.bal_tree.specs.declared.expr.Detail.{fold_out-Detail}
use Rattle.bal_tree.specs.declared.expr.Member.{fold_out-Member}
use Rattle.bal_tree.specs.declared.expr.Call.TheViews.{the_lemmas}

pub ruleset expr_layers = (the_lemmas, fold_out-Call, fold_out-Expr, fold_out-Key, fold_out-Postfix, fold_out-Primary, fold_out-Detail, fold_out-Member)
