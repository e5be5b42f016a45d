-- The evaluation of statements: what is to be done for each, before what is to be done behind it.
use Rattle.std.specs.Prelude.{◌+◌, ℕ, List, [], ◌∷◌, Option, Some, None, map}
use Rattle.std.specs.Global.{Box}
use Rattle.std.specs.List.{flat_map}
use Rattle.operations.specs.declared.operation.Constant.{Constant}
use Rattle.operations.specs.declared.operation.Constant.TheVariants as constant
use Rattle.operations.specs.declared.operation.Operation.{Operation}
use Rattle.operations.specs.declared.operation.Operation.TheVariants.{Const, Load, Store, LoadModule, StoreModule, SetItem, SetKey, Test, Return}
use Rattle.typed_tree.specs.declared.expr.TypedExpr.{TypedExpr}
use Rattle.typed_tree.specs.declared.form.Operator.{Operator}
use Rattle.typed_tree.specs.declared.form.Read.{Read}
use Rattle.typed_tree.specs.declared.form.Read.TheVariants as read
use Rattle.typed_tree.specs.declared.stmt.TypedClause.{TypedClause, TypedClause-F, out-TypedClause}
use Rattle.typed_tree.specs.declared.stmt.TypedStmt.{TypedStmt, out-TypedStmt}
use Rattle.typed_tree.specs.declared.stmt.TypedStmt.TheOpen as layer
use Rattle.typed_tree.specs.declared.stmt.UpdateTarget.{UpdateTarget}
use Rattle.typed_tree.specs.declared.stmt.UpdateTarget.TheVariants as target
use Rattle.typed_tree.specs.declared.stmt.TypedStmt.{TypedStmt-F}
use Rattle.held_operations.specs.Constructs.{operator_operations, perform_operations, read_operations}
use Rattle.held_operations.specs.Operation.{singleton}
use Rattle.eval_model.specs.Expressions.{narrowed_to}
use Rattle.eval_model.specs.Loops.{begins_loop, behind_loop, from_loop, round}
use Rattle.eval_model.specs.Tasks.{AsLongAs, MatchRow, Branch, Whole, These, Kept, Block, Round, Rows, Task, Eval, Do, Get, Choose, Turn, dos, evals, execs}

-- ---- assignments with an operator

-- the container is kept in the first slot, and the key in the next one
abbrev pub reads_member : Read → ℕ → List Operation
reads_member read.Item own = Load own ∷ Load (own + 1) ∷ read_operations read.Item
reads_member read.Key own = Load own ∷ Load (own + 1) ∷ read_operations read.Key
reads_member read.Char own = Load own ∷ Load (own + 1) ∷ read_operations read.Char
reads_member (read.Field name) own = Load own ∷ read_operations (read.Field name)
reads_member (read.OptionalField name) own = Load own ∷ read_operations (read.OptionalField name)

-- a character can't be set, since no string is a list
abbrev pub sets_member : Read → Operation
sets_member read.Item = SetItem
sets_member read.Key = SetKey
sets_member read.Char = SetItem
sets_member (read.Field name) = SetKey
sets_member (read.OptionalField name) = SetKey

-- the target is read, then the value is evaluated, and then what the operator gives is stored. A member's container and key
-- are evaluated once
abbrev pub updates : UpdateTarget → Operator → TypedExpr → List Task → List Task
updates (target.Local slot narrowed type) op value ts =
    Get slot (narrowed_to narrowed type) ∷ Eval value ∷ dos (operator_operations op) (Do (Store slot) ∷ ts)
updates (target.Variable m) op value ts =
    Do (LoadModule m) ∷ Eval value ∷ dos (operator_operations op) (Do (StoreModule m) ∷ ts)
updates (target.Member own how container key type) op value ts =
    Eval container.value ∷ Do (Store own) ∷ Eval key.value ∷ Do (Store (own + 1))
    ∷ dos (Load own ∷ Load (own + 1) ∷ reads_member how own) (Eval value ∷ dos (operator_operations op) (Do (sets_member how) ∷ ts))

-- ---- matches

-- a row for each pattern of a clause
abbrev pub rows_of_clause : TypedClause-F TypedStmt TypedClause → List MatchRow
rows_of_clause c = map (λ p. record { pattern = p.value; body = c.stmts.items }) c.patterns.items

abbrev pub match_rows : List TypedClause → List MatchRow
match_rows cs = flat_map (λ c. rows_of_clause (out-TypedClause c)) cs

-- a row fits where what the slot keeps is its constant, and one without a constant always does
abbrev pub tries_row : ℕ → Option Constant → List TypedStmt → List MatchRow → List Task → List Task
tries_row own (Some c) body more ts = dos (Load own ∷ Test (singleton c) ∷ []) (Choose (Block body) (Rows own more) ∷ ts)
tries_row own None body more ts = execs body ts

-- the first row that fits; where none does nothing is done
abbrev pub rows : ℕ → List MatchRow → List Task → List Task
rows own [] ts = ts
rows own (r ∷ more) ts = tries_row own r.pattern r.body more ts

-- ---- statements

-- without an expression nil is returned
abbrev pub returns : Option (Box TypedExpr) → List Task → List Task
returns None ts = dos (Const constant.Nil ∷ Return ∷ []) ts
returns (Some e) ts = Eval e.value ∷ Do Return ∷ ts

abbrev pub exec_layer : TypedStmt-F TypedStmt TypedClause → List Task → List Task
exec_layer (layer.Set slot value at) ts = Eval value.value ∷ Do (Store slot) ∷ ts
exec_layer (layer.Perform form operands at) ts = evals operands.items (dos (perform_operations form) ts)
exec_layer (layer.Update target op value at) ts = updates target op value.value ts
exec_layer (layer.If condition first second at) ts = Eval condition.value ∷ Choose (Block first.items) (Block second.items) ∷ ts
exec_layer (layer.While condition body at) ts = Turn (AsLongAs condition.value body.items) ∷ ts
exec_layer (layer.Foreach slot source body at) ts = begins_loop slot source body.items ts
exec_layer (layer.Match own subject clauses at) ts = Eval subject.value ∷ Do (Store own) ∷ rows own (match_rows clauses.items) ts
exec_layer (layer.Return value at) ts = returns value ts
exec_layer (layer.Block stmts at) ts = execs stmts.items ts
exec_layer (layer.Break at) ts = behind_loop ts
exec_layer (layer.Continue at) ts = from_loop ts

abbrev pub exec : TypedStmt → List Task → List Task
exec s ts = exec_layer (out-TypedStmt s) ts

-- ---- ways to go on

abbrev pub branch : Branch → List Task → List Task
branch (Whole e) ts = Eval e ∷ ts
branch (These ops) ts = dos ops ts
branch (Kept slot type ops) ts = Get slot (Some type) ∷ dos ops ts
branch (Block body) ts = execs body ts
branch (Round loop) ts = round loop (Turn loop ∷ ts)
branch (Rows own more) ts = rows own more ts
