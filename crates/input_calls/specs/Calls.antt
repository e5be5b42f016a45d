-- Calls of the library that stand in a package, by its trees, anonymous functions among them; and whether input is asked for.
use Rattle.std.specs.Prelude.{Bool, true, false, ◌||◌, List, Contains, map}
use Rattle.operations.specs.declared.library.LibraryCall.{LibraryCall}
use Rattle.operations.specs.declared.library.LibraryCall.TheVariants as call
use Rattle.operations.specs.declared.library.LibraryCall.TheVariants.{Readln}
use Rattle.typed_tree.specs.declared.form.StrictForm.{StrictForm}
use Rattle.typed_tree.specs.declared.form.StrictForm.TheVariants as form
use Rattle.typed_tree.specs.declared.expr.TypedExpr.{TypedExpr}
use Rattle.typed_tree.specs.declared.expr.TypedExpr.TheOpen as layer
use Rattle.typed_tree.specs.declared.stmt.TypedStmt.{TypedStmt}
use Rattle.typed_tree.specs.declared.stmt.TypedStmt.TheOpen as stmt_layer
use Rattle.typed_tree.specs.declared.stmt.TypedClause.{TypedClause}
use Rattle.typed_tree.specs.declared.stmt.UpdateTarget.{UpdateTarget}
use Rattle.typed_tree.specs.declared.stmt.UpdateTarget.TheVariants.{Local, Variable, Member}
use Rattle.typed_tree.specs.declared.stmt.Source.{Source}
use Rattle.typed_tree.specs.declared.stmt.Source.TheVariants.{Range, List as ListSource}
use Rattle.typed_tree.specs.declared.unit.TypedBody.{TypedBody}
use Rattle.typed_tree.specs.declared.unit.TypedBody.TheVariants.{Block, Expr}
use Rattle.typed_tree.specs.declared.unit.TypedWorker.{TypedWorker}
use Rattle.typed_tree.specs.declared.unit.TypedFunction.{TypedFunction}
use Rattle.typed_tree.specs.declared.package.Initial.{Initial}
use Rattle.typed_tree.specs.declared.package.Initialiser.{Initialiser}
use Rattle.typed_tree.specs.declared.package.TypedPackage.{TypedPackage}
use Rattle.typed_tree.specs.Listed.{Listed, nothing, one, ◌&◌, joined, if_boxed, members}
use Rattle.typed_tree.specs.ExprLayers.{TypedExprOf, of_typed_expr}
use Rattle.typed_tree.specs.StmtLayers.{TypedStmtOf, TypedClauseOf, TypedStmtSteps, of_typed_stmt, of_typed_clause}

-- ---- expressions and actions

abbrev pub form_calls : StrictForm → Listed LibraryCall
form_calls (form.Library call atom cast) = one call
form_calls (form.Literal c) = nothing
form_calls (form.Constant c) = nothing
form_calls (form.Variable m) = nothing
form_calls (form.FunctionName unit) = nothing
form_calls (form.Operator op) = nothing
form_calls (form.Is t) = nothing
form_calls (form.Cast t) = nothing
form_calls (form.List atom immutable) = nothing
form_calls (form.Mapping atom immutable) = nothing
form_calls form.Error = nothing
form_calls (form.Read how) = nothing
form_calls (form.Call called) = nothing
form_calls (form.Start started) = nothing
form_calls (form.Send peer) = nothing
form_calls (form.SyncSend peer) = nothing
form_calls (form.Receive peer) = nothing
form_calls (form.Flush peer) = nothing
form_calls (form.WaitAny names) = nothing
form_calls (form.WaitAll atom names) = nothing

abbrev pub expr_step : TypedExprOf (Listed LibraryCall) → Listed LibraryCall
expr_step (layer.Strict form operands type at) = joined operands.items & form_calls form
expr_step (layer.Implied value type at) = nothing
expr_step (layer.Local slot narrowed type at) = nothing
expr_step (layer.And left right type at) = left.value & right.value
expr_step (layer.Or left right type at) = left.value & right.value
expr_step (layer.Conditional condition middle last type at) = condition.value & middle.value & last.value
expr_step (layer.Elvis own left right type at) = left.value & right.value
expr_step (layer.Check panics own operand type at) = operand.value
expr_step (layer.Trap operand type at) = operand.value
expr_step (layer.Function function value type at) = value.value
expr_step (layer.Parens inner type at) = inner.value

abbrev pub expr_calls : TypedExpr → Listed LibraryCall
expr_calls = of_typed_expr expr_step

abbrev pub exprs_calls : List TypedExpr → Listed LibraryCall
exprs_calls es = joined (map expr_calls es)

-- ---- statements

abbrev pub target_calls : UpdateTarget → Listed LibraryCall
target_calls (Local slot narrowed type) = nothing
target_calls (Variable m) = nothing
target_calls (Member own read container key type) = expr_calls container.value & expr_calls key.value

abbrev pub source_calls : Source → Listed LibraryCall
source_calls (Range own end from to) = expr_calls from.value & expr_calls to.value
source_calls (ListSource own list) = expr_calls list.value

abbrev pub stmt_step : TypedStmtOf (Listed LibraryCall) → Listed LibraryCall
stmt_step (stmt_layer.Set slot value at) = expr_calls value.value
stmt_step (stmt_layer.Perform form operands at) = exprs_calls operands.items
stmt_step (stmt_layer.Update target op value at) = target_calls target & expr_calls value.value
stmt_step (stmt_layer.If condition first second at) =
    expr_calls condition.value & joined first.items & joined second.items
stmt_step (stmt_layer.While condition body at) = expr_calls condition.value & joined body.items
stmt_step (stmt_layer.Foreach slot source body at) = source_calls source & joined body.items
stmt_step (stmt_layer.Match own subject clauses at) = expr_calls subject.value & joined clauses.items
stmt_step (stmt_layer.Return value at) = if_boxed expr_calls value
stmt_step (stmt_layer.Block stmts at) = joined stmts.items
stmt_step (stmt_layer.Break at) = nothing
stmt_step (stmt_layer.Continue at) = nothing

abbrev pub clause_step : TypedClauseOf (Listed LibraryCall) → Listed LibraryCall
clause_step c = joined c.stmts.items

abbrev pub listing : TypedStmtSteps (Listed LibraryCall)
listing = record { stmt = stmt_step; clause = clause_step }

abbrev pub stmt_calls : TypedStmt → Listed LibraryCall
stmt_calls = of_typed_stmt listing

abbrev pub clause_calls : TypedClause → Listed LibraryCall
clause_calls = of_typed_clause listing

abbrev pub stmts_calls : List TypedStmt → Listed LibraryCall
stmts_calls ss = joined (map stmt_calls ss)

-- ---- functions and packages

abbrev pub worker_calls : TypedWorker → Listed LibraryCall
worker_calls w = stmts_calls w.stmts.items

abbrev pub body_calls : TypedBody → Listed LibraryCall
body_calls (Block initial workers rest ends close) =
    stmts_calls initial.items & joined (map worker_calls workers.items) & stmts_calls rest.items
body_calls (Expr value) = expr_calls value.value

abbrev pub function_calls : TypedFunction → Listed LibraryCall
function_calls f = body_calls f.body

abbrev pub initial_calls : Initial → Listed LibraryCall
initial_calls i = expr_calls i.value.value

abbrev pub initialiser_calls : Initialiser → Listed LibraryCall
initialiser_calls i = joined (map initial_calls i.values.items)

abbrev pub package_calls : TypedPackage → Listed LibraryCall
package_calls p = joined (map function_calls p.functions.items) & joined (map initialiser_calls p.initialisers.items)

-- ---- input

abbrev pub asks : LibraryCall → Bool
asks call.Println = false
asks call.Print = false
asks call.Readln = true
asks call.FromString = false
asks call.Abs = false
asks call.ToString = false
asks call.Clone = false
asks call.CloneReadOnly = false
asks call.StringLength = false
asks call.StartsWith = false
asks call.Trim = false
asks call.Substring = false
asks call.ToUpperAscii = false
asks call.ToLowerAscii = false
asks call.ToCodePointInts = false
asks call.ListLength = false
asks call.Push = false
asks call.Pop = false
asks call.RemoveItem = false
asks call.Slice = false
asks call.Reverse = false
asks call.MappingLength = false
asks call.Keys = false
asks call.HasKey = false
asks call.Get = false
asks call.RemoveKey = false
asks call.Message = false
asks call.Cause = false
asks call.Detail = false

-- whether one was found, behind one more
abbrev pub asked : LibraryCall → Bool → Bool
asked c found = found || asks c

-- `io:readln` is called
abbrev pub CallsReadln : TypedPackage → Type 0
CallsReadln p = Contains (members (package_calls p)) Readln
