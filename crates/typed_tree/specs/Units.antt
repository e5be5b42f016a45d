-- The units of a package with what each does: functions and their workers, anonymous functions, and initialisers.
use Rattle.std.specs.Prelude.{◌==◌, ℕ, Bool, List, Option, find, map}
use Rattle.typed_tree.specs.declared.expr.TypedExpr.{TypedExpr, para-TypedExpr}
use Rattle.typed_tree.specs.declared.expr.TypedExpr.TheOpen as layer
use Rattle.typed_tree.specs.declared.stmt.TypedStmt.{TypedStmt}
use Rattle.typed_tree.specs.declared.stmt.TypedStmt.TheOpen as stmt_layer
use Rattle.typed_tree.specs.declared.stmt.UpdateTarget.{UpdateTarget}
use Rattle.typed_tree.specs.declared.stmt.UpdateTarget.TheVariants.{Local, Variable, Member}
use Rattle.typed_tree.specs.declared.stmt.Source.{Source}
use Rattle.typed_tree.specs.declared.stmt.Source.TheVariants.{Range, List as ListSource}
use Rattle.typed_tree.specs.declared.unit.TypedUnit.{TypedUnit}
use Rattle.typed_tree.specs.declared.unit.TypedBody.{TypedBody}
use Rattle.typed_tree.specs.declared.unit.TypedBody.TheVariants.{Block, Expr}
use Rattle.typed_tree.specs.declared.unit.TypedWorker.{TypedWorker}
use Rattle.typed_tree.specs.declared.unit.TypedFunction.{TypedFunction}
use Rattle.typed_tree.specs.declared.package.Initial.{Initial}
use Rattle.typed_tree.specs.declared.package.Initialiser.{Initialiser}
use Rattle.typed_tree.specs.declared.package.TypedPackage.{TypedPackage}
use Rattle.typed_tree.specs.Listed.{Listed, nothing, one, ◌&◌, joined, if_boxed, members}
use Rattle.typed_tree.specs.ExprLayers.{TypedExprOf}
use Rattle.typed_tree.specs.StmtLayers.{TypedStmtOf, TypedClauseOf, TypedStmtSteps, of_typed_stmt}

-- what a unit does
pub data UnitBody : Type 0 where
  OfFunction : TypedBody → UnitBody
  -- and whether the end of its statements is reached
  OfWorker : List TypedStmt → Bool → UnitBody
  -- the value of an anonymous function
  OfAnonymous : TypedExpr → UnitBody
  OfInitialiser : List Initial → UnitBody

pub record UnitTree : Type 0 where
  pub unit : TypedUnit
  pub body : UnitBody

abbrev unit_tree : TypedUnit → UnitBody → Listed UnitTree
unit_tree unit body = one (record { unit = unit; body = body })

-- ---- the anonymous functions of expressions and statements

-- a part with the units in it
abbrev With : Type 0
With = TypedExpr × Listed UnitTree

abbrev expr_step : TypedExprOf With → Listed UnitTree
expr_step (layer.Strict form operands type at) = joined (map (λ e. e.1) operands.items)
expr_step (layer.Implied value type at) = nothing
expr_step (layer.Local slot narrowed type at) = nothing
expr_step (layer.And left right type at) = left.value.1 & right.value.1
expr_step (layer.Or left right type at) = left.value.1 & right.value.1
expr_step (layer.Conditional condition middle last type at) = condition.value.1 & middle.value.1 & last.value.1
expr_step (layer.Elvis own left right type at) = left.value.1 & right.value.1
expr_step (layer.Check panics own operand type at) = operand.value.1
expr_step (layer.Trap operand type at) = operand.value.1
expr_step (layer.Function function value type at) = unit_tree function.value.unit (OfAnonymous value.value.0) & value.value.1
expr_step (layer.Parens inner type at) = inner.value.1

abbrev pub expr_units : TypedExpr → Listed UnitTree
expr_units = para-TypedExpr (Listed UnitTree) expr_step

abbrev pub target_units : UpdateTarget → Listed UnitTree
target_units (Local slot narrowed type) = nothing
target_units (Variable m) = nothing
target_units (Member own read container key type) = expr_units container.value & expr_units key.value

abbrev pub source_units : Source → Listed UnitTree
source_units (Range own end from to) = expr_units from.value & expr_units to.value
source_units (ListSource own list) = expr_units list.value

abbrev pub stmt_step : TypedStmtOf (Listed UnitTree) → Listed UnitTree
stmt_step (stmt_layer.Set slot value at) = expr_units value.value
stmt_step (stmt_layer.Perform form operands at) = joined (map expr_units operands.items)
stmt_step (stmt_layer.Update target op value at) = target_units target & expr_units value.value
stmt_step (stmt_layer.If condition first second at) = expr_units condition.value & joined first.items & joined second.items
stmt_step (stmt_layer.While condition body at) = expr_units condition.value & joined body.items
stmt_step (stmt_layer.Foreach slot source body at) = source_units source & joined body.items
stmt_step (stmt_layer.Match own subject clauses at) = expr_units subject.value & joined clauses.items
stmt_step (stmt_layer.Return value at) = if_boxed expr_units value
stmt_step (stmt_layer.Block stmts at) = joined stmts.items
stmt_step (stmt_layer.Break at) = nothing
stmt_step (stmt_layer.Continue at) = nothing

abbrev pub clause_step : TypedClauseOf (Listed UnitTree) → Listed UnitTree
clause_step c = joined c.stmts.items

abbrev pub listing : TypedStmtSteps (Listed UnitTree)
listing = record { stmt = stmt_step; clause = clause_step }

abbrev pub stmts_units : List TypedStmt → Listed UnitTree
stmts_units ss = joined (map (of_typed_stmt listing) ss)

-- ---- functions and packages

abbrev pub worker_units : TypedWorker → Listed UnitTree
worker_units w = unit_tree w.unit (OfWorker w.stmts.items w.ends) & stmts_units w.stmts.items

abbrev pub body_units : TypedBody → Listed UnitTree
body_units (Block initial workers rest ends close) =
    stmts_units initial.items & joined (map worker_units workers.items) & stmts_units rest.items
body_units (Expr value) = expr_units value.value

abbrev pub function_units : TypedFunction → Listed UnitTree
function_units f = unit_tree f.unit (OfFunction f.body) & body_units f.body

abbrev pub initial_units : Initial → Listed UnitTree
initial_units i = expr_units i.value.value

abbrev pub initialiser_units : Initialiser → Listed UnitTree
initialiser_units i = unit_tree i.unit (OfInitialiser i.values.items) & joined (map initial_units i.values.items)

abbrev pub units_of : TypedPackage → List UnitTree
units_of p = members (joined (map function_units p.functions.items) & joined (map initialiser_units p.initialisers.items))

-- the unit with this number
abbrev pub unit_at : TypedPackage → ℕ → Option UnitTree
unit_at p number = find (λ u. u.unit.number == number) (units_of p)
