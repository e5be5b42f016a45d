-- The nodes of typed trees, by their places: expressions, actions, statements and patterns.
use Rattle.std.specs.Prelude.{ℕ, ◌+◌, ◌^◌, ◌-◌, List, map, min}
use Rattle.bal_base.specs.declared.place.Place.{Place}
use Rattle.typed_tree.specs.declared.expr.TypedExpr.{TypedExpr}
use Rattle.typed_tree.specs.declared.expr.TypedExpr.TheOpen as layer
use Rattle.typed_tree.specs.declared.stmt.TypedStmt.{TypedStmt}
use Rattle.typed_tree.specs.declared.stmt.TypedStmt.TheOpen as stmt_layer
use Rattle.typed_tree.specs.declared.stmt.TypedClause.{TypedClause}
use Rattle.typed_tree.specs.declared.stmt.TypedPattern.{TypedPattern}
use Rattle.typed_tree.specs.declared.stmt.UpdateTarget.{UpdateTarget}
use Rattle.typed_tree.specs.declared.stmt.UpdateTarget.TheVariants.{Local, Variable, Member}
use Rattle.typed_tree.specs.declared.stmt.Source.{Source}
use Rattle.typed_tree.specs.declared.stmt.Source.TheVariants.{Range, List as ListSource}
use Rattle.typed_tree.specs.declared.unit.TypedBody.{TypedBody}
use Rattle.typed_tree.specs.declared.unit.TypedBody.TheVariants.{Block, Expr}
use Rattle.typed_tree.specs.declared.unit.TypedWorker.{TypedWorker}
use Rattle.typed_tree.specs.declared.unit.TypedFunction.{TypedFunction}
use Rattle.typed_tree.specs.declared.package.Initial.{Initial}
use Rattle.typed_tree.specs.declared.package.Initialiser.{Initialiser}
use Rattle.typed_tree.specs.declared.package.TypedPackage.{TypedPackage}
use Rattle.typed_tree.specs.Listed.{Listed, nothing, one, ◌&◌, joined, if_boxed, size}
use Rattle.typed_tree.specs.ExprLayers.{TypedExprOf, of_typed_expr}
use Rattle.typed_tree.specs.StmtLayers.{TypedStmtOf, TypedClauseOf, TypedStmtSteps, of_typed_stmt, of_typed_clause}

-- ---- expressions and actions

abbrev pub expr_step : TypedExprOf (Listed Place) → Listed Place
expr_step (layer.Strict form operands type at) = one at & joined operands.items
expr_step (layer.Implied value type at) = nothing
expr_step (layer.Local slot narrowed type at) = one at
expr_step (layer.And left right type at) = one at & left.value & right.value
expr_step (layer.Or left right type at) = one at & left.value & right.value
expr_step (layer.Conditional condition middle last type at) = one at & condition.value & middle.value & last.value
expr_step (layer.Elvis own left right type at) = one at & left.value & right.value
expr_step (layer.Check panics own operand type at) = one at & operand.value
expr_step (layer.Trap operand type at) = one at & operand.value
expr_step (layer.Function function value type at) = one at & value.value
expr_step (layer.Parens inner type at) = one at & inner.value

abbrev pub expr_nodes : TypedExpr → Listed Place
expr_nodes = of_typed_expr expr_step

abbrev pub exprs_nodes : List TypedExpr → Listed Place
exprs_nodes es = joined (map expr_nodes es)

-- ---- statements

abbrev pub target_nodes : UpdateTarget → Listed Place
target_nodes (Local slot narrowed type) = nothing
target_nodes (Variable m) = nothing
target_nodes (Member own read container key type) = expr_nodes container.value & expr_nodes key.value

abbrev pub source_nodes : Source → Listed Place
source_nodes (Range own end from to) = expr_nodes from.value & expr_nodes to.value
source_nodes (ListSource own list) = expr_nodes list.value

abbrev pub pattern_nodes : TypedPattern → Listed Place
pattern_nodes p = one p.at

abbrev pub stmt_step : TypedStmtOf (Listed Place) → Listed Place
stmt_step (stmt_layer.Set slot value at) = one at & expr_nodes value.value
stmt_step (stmt_layer.Perform form operands at) = one at & exprs_nodes operands.items
stmt_step (stmt_layer.Update target op value at) = one at & target_nodes target & expr_nodes value.value
stmt_step (stmt_layer.If condition first second at) =
    one at & expr_nodes condition.value & joined first.items & joined second.items
stmt_step (stmt_layer.While condition body at) = one at & expr_nodes condition.value & joined body.items
stmt_step (stmt_layer.Foreach slot source body at) = one at & source_nodes source & joined body.items
stmt_step (stmt_layer.Match own subject clauses at) = one at & expr_nodes subject.value & joined clauses.items
stmt_step (stmt_layer.Return value at) = one at & if_boxed expr_nodes value
stmt_step (stmt_layer.Block stmts at) = one at & joined stmts.items
stmt_step (stmt_layer.Break at) = one at
stmt_step (stmt_layer.Continue at) = one at

abbrev pub clause_step : TypedClauseOf (Listed Place) → Listed Place
clause_step c = joined (map pattern_nodes c.patterns.items) & joined c.stmts.items

abbrev pub listing : TypedStmtSteps (Listed Place)
listing = record { stmt = stmt_step; clause = clause_step }

abbrev pub stmt_nodes : TypedStmt → Listed Place
stmt_nodes = of_typed_stmt listing

abbrev pub clause_nodes : TypedClause → Listed Place
clause_nodes = of_typed_clause listing

abbrev pub stmts_nodes : List TypedStmt → Listed Place
stmts_nodes ss = joined (map stmt_nodes ss)

-- ---- functions and packages

abbrev pub worker_nodes : TypedWorker → Listed Place
worker_nodes w = stmts_nodes w.stmts.items

abbrev pub body_nodes : TypedBody → Listed Place
body_nodes (Block initial workers rest ends close) =
    stmts_nodes initial.items & joined (map worker_nodes workers.items) & stmts_nodes rest.items
body_nodes (Expr value) = expr_nodes value.value

abbrev pub function_nodes : TypedFunction → Listed Place
function_nodes f = body_nodes f.body

abbrev pub initial_nodes : Initial → Listed Place
initial_nodes i = expr_nodes i.value.value

abbrev pub initialiser_nodes : Initialiser → Listed Place
initialiser_nodes i = joined (map initial_nodes i.values.items)

abbrev pub package_nodes : TypedPackage → Listed Place
package_nodes p = joined (map function_nodes p.functions.items) & joined (map initialiser_nodes p.initialisers.items)

-- as many as there are, and the greatest number where there are more
abbrev pub node_count : TypedPackage → ℕ
node_count p = min (size (package_nodes p)) (2 ^ 64 - 1)

-- one more, up to the greatest number
abbrev pub counted : Place → ℕ → ℕ
counted at n = min (n + 1) (2 ^ 64 - 1)
