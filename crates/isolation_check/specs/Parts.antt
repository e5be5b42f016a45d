-- What of a body isolation looks at, in the order of the text: what an expression or a statement does by itself stands before its parts.
use Rattle.std.specs.Prelude.{ℕ, Bool, true, false, List, [], ◌∷◌, map}
use Rattle.bal_base.specs.declared.place.Place.{Place}
use Rattle.typed_tree.specs.declared.expr.AnonymousFunction.{AnonymousFunction}
use Rattle.typed_tree.specs.declared.expr.TypedExpr.{TypedExpr, para-TypedExpr}
use Rattle.typed_tree.specs.declared.expr.TypedExpr.TheOpen as layer
use Rattle.typed_tree.specs.declared.form.Callee.{Callee}
use Rattle.typed_tree.specs.declared.form.Callee.TheVariants.{Unit as ByName, Value as ByValue}
use Rattle.typed_tree.specs.declared.form.StrictForm.{StrictForm}
use Rattle.typed_tree.specs.declared.form.StrictForm.TheVariants as form
use Rattle.typed_tree.specs.declared.stmt.PerformForm.{PerformForm}
use Rattle.typed_tree.specs.declared.stmt.PerformForm.TheVariants as perform
use Rattle.typed_tree.specs.declared.stmt.Source.{Source}
use Rattle.typed_tree.specs.declared.stmt.Source.TheVariants.{Range, List as ListSource}
use Rattle.typed_tree.specs.declared.stmt.TypedStmt.{TypedStmt}
use Rattle.typed_tree.specs.declared.stmt.TypedStmt.TheOpen as stmt_layer
use Rattle.typed_tree.specs.declared.stmt.UpdateTarget.{UpdateTarget}
use Rattle.typed_tree.specs.declared.stmt.UpdateTarget.TheVariants.{Local, Variable, Member}
use Rattle.typed_tree.specs.declared.unit.Captured.{Captured}
use Rattle.typed_tree.specs.declared.unit.TypedBody.{TypedBody}
use Rattle.typed_tree.specs.declared.unit.TypedBody.TheVariants.{Block, Expr}
use Rattle.typed_tree.specs.declared.unit.TypedFunction.{TypedFunction}
use Rattle.typed_tree.specs.declared.unit.TypedWorker.{TypedWorker}
use Rattle.typed_tree.specs.declared.package.Initial.{Initial}
use Rattle.typed_tree.specs.declared.package.Initialiser.{Initialiser}
use Rattle.typed_tree.specs.ExprLayers.{TypedExprOf}
use Rattle.typed_tree.specs.StmtLayers.{TypedClauseOf, TypedStmtOf, TypedStmtSteps, of_typed_clause, of_typed_stmt}
use Rattle.typed_tree.specs.Exprs.{type_of}
use Rattle.typed_tree.specs.Listed.{Listed, nothing, one, ◌&◌, if_boxed, joined}
use Rattle.typed_tree.specs.SharedTypes.{Shared}
use Rattle.isolation_check.specs.declared.parts.Within.{Within}
use Rattle.isolation_check.specs.declared.parts.Within.TheVariants.{Body, Isolated, Free}

pub data Does : Type 0 where
  -- reads the module variable with this number
  Reads : ℕ → Does
  -- assigns a module variable
  Stores : Does
  -- calls or starts the function of this unit by its name
  Calls : ℕ → Does
  -- calls or starts a value of this type
  CallsValue : Shared → Does
  -- makes an isolated function that captures these variables
  Captures : List Captured → Does

pub record Part : Type 0 where
  pub does : Does
  pub at : Place

-- A part of a body, or of an isolated anonymous function that stands in it.
pub record Noted : Type 0 where
  pub anonymous : Bool
  pub part : Part

-- What a part is noted for: the body, an isolated anonymous function, or nothing.
abbrev pub noted : Within → Does → Place → Listed Noted
noted Body does at = one (record { anonymous = false; part = record { does = does; at = at } })
noted Isolated does at = one (record { anonymous = true; part = record { does = does; at = at } })
noted Free does at = nothing

-- ---- expressions and actions

-- the value that is called is the first operand
abbrev pub called_value : List TypedExpr → Place → Within → Listed Noted
called_value [] at w = nothing
called_value (f ∷ args) at w = noted w (CallsValue (type_of f)) at

abbrev pub callee_parts : Callee → List TypedExpr → Place → Within → Listed Noted
callee_parts (ByName unit fixed rest) operands at w = noted w (Calls unit) at
callee_parts ByValue operands at w = called_value operands at w

abbrev pub form_parts : StrictForm → List TypedExpr → Place → Within → Listed Noted
form_parts (form.Variable m) operands at w = noted w (Reads m) at
form_parts (form.Call callee) operands at w = callee_parts callee operands at w
form_parts (form.Start callee) operands at w = callee_parts callee operands at w
form_parts (form.Literal c) operands at w = nothing
form_parts (form.Constant c) operands at w = nothing
form_parts (form.FunctionName unit) operands at w = nothing
form_parts (form.Operator op) operands at w = nothing
form_parts (form.Is t) operands at w = nothing
form_parts (form.Cast t) operands at w = nothing
form_parts (form.List atom immutable) operands at w = nothing
form_parts (form.Mapping atom immutable) operands at w = nothing
form_parts form.Error operands at w = nothing
form_parts (form.Read read) operands at w = nothing
form_parts (form.Library call atom cast) operands at w = nothing
form_parts (form.Send peer) operands at w = nothing
form_parts (form.SyncSend peer) operands at w = nothing
form_parts (form.Receive peer) operands at w = nothing
form_parts (form.Flush peer) operands at w = nothing
form_parts (form.WaitAny awaited) operands at w = nothing
form_parts (form.WaitAll atom awaited) operands at w = nothing

-- A part of a tree, and what is noted of it by where it stands.
abbrev With : Type 0
With = TypedExpr × (Within → Listed Noted)

-- what stands in an anonymous function is no part of the body around it
abbrev pub anonymous_parts : AnonymousFunction → (Within → Listed Noted) → Place → Bool → Listed Noted
anonymous_parts f value at true = noted Isolated (Captures f.captured) at & value Isolated
anonymous_parts f value at false = value Free

abbrev expr_step : TypedExprOf With → Within → Listed Noted
expr_step (layer.Strict form operands type at) w = form_parts form (map (λ e. e.0) operands.items) at w & joined (map (λ e. e.1 w) operands.items)
expr_step (layer.Implied value type at) w = nothing
expr_step (layer.Local slot narrowed type at) w = nothing
expr_step (layer.And left right type at) w = left.value.1 w & right.value.1 w
expr_step (layer.Or left right type at) w = left.value.1 w & right.value.1 w
expr_step (layer.Conditional condition middle last type at) w = condition.value.1 w & middle.value.1 w & last.value.1 w
expr_step (layer.Elvis own left right type at) w = left.value.1 w & right.value.1 w
expr_step (layer.Check panics own operand type at) w = operand.value.1 w
expr_step (layer.Trap operand type at) w = operand.value.1 w
expr_step (layer.Function function value type at) w = anonymous_parts function.value value.value.1 at function.value.isolated
expr_step (layer.Parens inner type at) w = inner.value.1 w

abbrev pub expr_parts : TypedExpr → Within → Listed Noted
expr_parts = para-TypedExpr (Within → Listed Noted) expr_step

-- ---- statements

abbrev pub of_body : TypedExpr → Listed Noted
of_body e = expr_parts e Body

abbrev pub perform_parts : PerformForm → Place → Listed Noted
perform_parts (perform.SetVariable m) at = noted Body Stores at
perform_parts perform.SetItem at = nothing
perform_parts perform.SetKey at = nothing
perform_parts perform.Ignore at = nothing
perform_parts perform.Evaluate at = nothing
perform_parts perform.Panic at = nothing

abbrev pub target_parts : UpdateTarget → Place → Listed Noted
target_parts (Local slot narrowed type) at = nothing
target_parts (Variable m) at = noted Body Stores at
target_parts (Member own read container key type) at = of_body container.value & of_body key.value

abbrev pub source_parts : Source → Listed Noted
source_parts (Range own end from to) = of_body from.value & of_body to.value
source_parts (ListSource own list) = of_body list.value

abbrev pub stmt_step : TypedStmtOf (Listed Noted) → Listed Noted
stmt_step (stmt_layer.Set slot value at) = of_body value.value
stmt_step (stmt_layer.Perform form operands at) = perform_parts form at & joined (map of_body operands.items)
stmt_step (stmt_layer.Update target op value at) = target_parts target at & of_body value.value
stmt_step (stmt_layer.If condition first second at) = of_body condition.value & joined first.items & joined second.items
stmt_step (stmt_layer.While condition body at) = of_body condition.value & joined body.items
stmt_step (stmt_layer.Foreach slot source body at) = source_parts source & joined body.items
stmt_step (stmt_layer.Match own subject clauses at) = of_body subject.value & joined clauses.items
stmt_step (stmt_layer.Return value at) = if_boxed of_body value
stmt_step (stmt_layer.Block stmts at) = joined stmts.items
stmt_step (stmt_layer.Break at) = nothing
stmt_step (stmt_layer.Continue at) = nothing

abbrev pub clause_step : TypedClauseOf (Listed Noted) → Listed Noted
clause_step c = joined c.stmts.items

abbrev pub noting : TypedStmtSteps (Listed Noted)
noting = record { stmt = stmt_step; clause = clause_step }

abbrev pub stmts_parts : List TypedStmt → Listed Noted
stmts_parts ss = joined (map (of_typed_stmt noting) ss)

-- ---- functions and initial values

-- the bodies of its workers are parts of a function's body
abbrev pub worker_parts : TypedWorker → Listed Noted
worker_parts w = stmts_parts w.stmts.items

abbrev pub body_parts : TypedBody → Listed Noted
body_parts (Block initial workers rest ends close) = stmts_parts initial.items & joined (map worker_parts workers.items) & stmts_parts rest.items
body_parts (Expr value) = of_body value.value

abbrev pub function_parts : TypedFunction → Listed Noted
function_parts f = body_parts f.body

-- an initial value promises nothing by itself
abbrev pub initial_parts : Initial → Listed Noted
initial_parts i = expr_parts i.value.value Free

abbrev pub initialiser_parts : Initialiser → Listed Noted
initialiser_parts i = joined (map initial_parts i.values.items)
