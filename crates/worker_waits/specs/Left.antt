-- The events of typed trees, and those that are left to be made where a frame has these tasks to do.
use Rattle.std.specs.Prelude.{◌≡◌, ◌+◌, ℕ, List, [], ◌∷◌, Option, Some, None, if◌then◌else◌, map, ⊤}
use Rattle.std.specs.Global.{Box}
use Rattle.operations.specs.declared.operation.Operation.{Operation}
use Rattle.operations.specs.declared.operation.Operation.TheVariants as op
use Rattle.typed_tree.specs.declared.event.EventKind.{EventKind}
use Rattle.typed_tree.specs.declared.event.EventKind.TheVariants.{Send, Post, Done, Receive, Flush, Wait}
use Rattle.typed_tree.specs.declared.expr.TypedExpr.{TypedExpr}
use Rattle.typed_tree.specs.declared.expr.TypedExpr.TheOpen as layer
use Rattle.typed_tree.specs.declared.form.StrictForm.{StrictForm}
use Rattle.typed_tree.specs.declared.form.StrictForm.TheVariants as form
use Rattle.typed_tree.specs.declared.stmt.TypedStmt.{TypedStmt}
use Rattle.typed_tree.specs.declared.stmt.TypedStmt.TheOpen as stmt_layer
use Rattle.typed_tree.specs.declared.stmt.UpdateTarget.{UpdateTarget}
use Rattle.typed_tree.specs.declared.stmt.UpdateTarget.TheVariants.{Local, Variable, Member}
use Rattle.typed_tree.specs.declared.stmt.Source.{Source}
use Rattle.typed_tree.specs.declared.stmt.Source.TheVariants.{Range, List as ListSource}
use Rattle.typed_tree.specs.ExprLayers.{TypedExprOf, of_typed_expr}
use Rattle.typed_tree.specs.StmtLayers.{TypedStmtOf, TypedClauseOf, TypedStmtSteps, of_typed_stmt}
use Rattle.eval_model.specs.Tasks.{Branch, Whole, These, Kept, Block, Round, Rows, Loop, AsLongAs, OverRange, OverList, Task, Eval, Exec, Do, Get, Choose, Turn, Guard}
use Rattle.operations.specs.Talk.{workers_in}
use Rattle.worker_pairing.specs.Events.{is_message}

-- what is made on the way: an event, or the start of the named workers
pub data Step : Type 0 where
  Makes : EventKind → Step
  Begins : Step

-- ---- of trees: what is made on the way through, before what is made behind it; how much that is; and how many events can't be
-- paired, since they stand in parts that may be left out or done again, name no other worker, or are messages in a trap

pub record Shown : Type 0 where
  pub own : List Step → List Step
  pub size : ℕ
  -- how many of these a trap must not cut off: messages, and the start of the named workers
  pub messages : ℕ
  pub wrong : ℕ

abbrev pub nothing_shown : Shown
nothing_shown = record { own = λ k. k; size = 0; messages = 0; wrong = 0 }

abbrev pub then_shown : Shown → Shown → Shown
then_shown a b = record { own = λ k. a.own (b.own k); size = a.size + b.size; messages = a.messages + b.messages; wrong = a.wrong + b.wrong }

abbrev pub all_shown : List Shown → Shown
all_shown [] = nothing_shown
all_shown (a ∷ rest) = then_shown a (all_shown rest)

abbrev pub within : Shown → Shown
within a = record { own = λ k. k; size = 0; messages = 0; wrong = a.size + a.wrong }

abbrev pub one_shown : EventKind → Shown
one_shown e = record { own = λ k. Makes e ∷ k; size = 1; messages = if is_message e then 1 else 0; wrong = 0 }

abbrev pub begins_shown : Shown
begins_shown = record { own = λ k. Begins ∷ k; size = 1; messages = 1; wrong = 0 }

abbrev pub wrong_shown : Shown
wrong_shown = record { own = λ k. k; size = 0; messages = 0; wrong = 1 }

-- a panic goes on behind what a trap guards, where a flush or a wait may be left out, but no message
abbrev pub guarded : Shown → Shown
guarded a = record { own = a.own; size = a.size; messages = a.messages; wrong = a.messages + a.wrong }

abbrev pub by_peer : (ℕ → Shown) → Option ℕ → Shown
by_peer show (Some w) = show w
by_peer show None = wrong_shown

-- a wait on no worker is no event
abbrev pub wait_shown : List ℕ → Shown
wait_shown [] = nothing_shown
wait_shown (n ∷ ns) = one_shown (Wait (n ∷ ns))

-- nor is there an alternate wait for nothing
abbrev pub alternate_shown : List (Option ℕ) → Shown
alternate_shown [] = wrong_shown
alternate_shown (name ∷ names) = wait_shown (workers_in (name ∷ names))

abbrev pub form_shown : StrictForm → Shown
form_shown (form.Literal c) = nothing_shown
form_shown (form.Constant c) = nothing_shown
form_shown (form.Variable m) = nothing_shown
form_shown (form.FunctionName unit) = nothing_shown
form_shown (form.Operator op) = nothing_shown
form_shown (form.Is t) = nothing_shown
form_shown (form.Cast t) = nothing_shown
form_shown (form.List atom immutable) = nothing_shown
form_shown (form.Mapping atom immutable) = nothing_shown
form_shown form.Error = nothing_shown
form_shown (form.Read how) = nothing_shown
form_shown (form.Call called) = nothing_shown
form_shown (form.Library call atom cast) = nothing_shown
form_shown (form.Start started) = nothing_shown
form_shown (form.Send peer) = by_peer (λ w. one_shown (Send (Some w))) peer
form_shown (form.SyncSend peer) = by_peer (λ w. then_shown (one_shown (Post (Some w))) (one_shown (Done (Some w)))) peer
form_shown (form.Receive peer) = by_peer (λ w. one_shown (Receive (Some w))) peer
form_shown (form.Flush peer) = by_peer (λ w. one_shown (Flush (Some w))) peer
form_shown (form.WaitAny names) = alternate_shown names
form_shown (form.WaitAll atom names) = wait_shown (workers_in names)

abbrev pub op_shown : Operation → Shown
op_shown (op.Const k) = nothing_shown
op_shown (op.Load slot) = nothing_shown
op_shown (op.Store slot) = nothing_shown
op_shown op.Pop = nothing_shown
op_shown (op.LoadModule m) = nothing_shown
op_shown (op.StoreModule m) = nothing_shown
op_shown op.Tick = nothing_shown
op_shown op.Add = nothing_shown
op_shown op.Subtract = nothing_shown
op_shown op.Multiply = nothing_shown
op_shown op.Divide = nothing_shown
op_shown op.Remainder = nothing_shown
op_shown op.Negate = nothing_shown
op_shown op.Concat = nothing_shown
op_shown op.Less = nothing_shown
op_shown op.LessEqual = nothing_shown
op_shown op.Not = nothing_shown
op_shown op.Equal = nothing_shown
op_shown op.Same = nothing_shown
op_shown (op.MakeList atom immutable count) = nothing_shown
op_shown (op.MakeMapping atom immutable count) = nothing_shown
op_shown (op.MakeError count) = nothing_shown
op_shown (op.MakeFunction unit count) = nothing_shown
op_shown op.GetItem = nothing_shown
op_shown op.GetKey = nothing_shown
op_shown op.GetChar = nothing_shown
op_shown (op.GetField name) = nothing_shown
op_shown (op.GetOptional name) = nothing_shown
op_shown op.SetItem = nothing_shown
op_shown op.SetKey = nothing_shown
op_shown (op.Test t) = nothing_shown
op_shown (op.Cast t) = nothing_shown
op_shown (op.Call unit count) = nothing_shown
op_shown (op.CallValue count) = nothing_shown
op_shown (op.Library call atom count) = nothing_shown
op_shown op.Return = nothing_shown
op_shown op.Panic = nothing_shown
op_shown (op.Start unit count) = nothing_shown
op_shown (op.StartValue count) = nothing_shown
op_shown op.Workers = begins_shown
op_shown (op.Send w) = one_shown (Send (Some w))
op_shown (op.Post w) = one_shown (Post (Some w))
op_shown (op.Done w) = one_shown (Done (Some w))
op_shown (op.Receive w) = one_shown (Receive (Some w))
op_shown (op.Flush w) = one_shown (Flush (Some w))
op_shown (op.WaitWorker w) = one_shown (Wait (w ∷ []))
op_shown op.WaitFuture = nothing_shown
op_shown (op.WaitAny names) = alternate_shown names
op_shown (op.WaitAll atom names) = wait_shown (workers_in names)

abbrev pub ops_shown : List Operation → Shown
ops_shown [] = nothing_shown
ops_shown (o ∷ os) = then_shown (op_shown o) (ops_shown os)

abbrev pub expr_step : TypedExprOf Shown → Shown
expr_step (layer.Strict form operands type at) = then_shown (all_shown operands.items) (form_shown form)
expr_step (layer.Implied value type at) = nothing_shown
expr_step (layer.Local slot narrowed type at) = nothing_shown
expr_step (layer.And left right type at) = then_shown left.value (within right.value)
expr_step (layer.Or left right type at) = then_shown left.value (within right.value)
expr_step (layer.Conditional condition middle last type at) = then_shown condition.value (then_shown (within middle.value) (within last.value))
expr_step (layer.Elvis own left right type at) = then_shown left.value (within right.value)
expr_step (layer.Check panics own operand type at) = operand.value
expr_step (layer.Trap operand type at) = guarded operand.value
expr_step (layer.Function function value type at) = nothing_shown
expr_step (layer.Parens inner type at) = inner.value

abbrev pub expr_shown : TypedExpr → Shown
expr_shown = of_typed_expr expr_step

abbrev pub exprs_shown : List TypedExpr → Shown
exprs_shown es = all_shown (map expr_shown es)

abbrev pub target_shown : UpdateTarget → Shown
target_shown (Local slot narrowed type) = nothing_shown
target_shown (Variable m) = nothing_shown
target_shown (Member own read container key type) = then_shown (expr_shown container.value) (expr_shown key.value)

abbrev pub source_shown : Source → Shown
source_shown (Range own end from to) = then_shown (expr_shown from.value) (expr_shown to.value)
source_shown (ListSource own list) = expr_shown list.value

abbrev pub if_value : Option (Box TypedExpr) → Shown
if_value (Some e) = expr_shown e.value
if_value None = nothing_shown

abbrev pub stmt_step : TypedStmtOf Shown → Shown
stmt_step (stmt_layer.Set slot value at) = expr_shown value.value
stmt_step (stmt_layer.Perform form operands at) = exprs_shown operands.items
stmt_step (stmt_layer.Update target op value at) = then_shown (target_shown target) (expr_shown value.value)
stmt_step (stmt_layer.If condition first second at) =
    then_shown (expr_shown condition.value) (then_shown (within (all_shown first.items)) (within (all_shown second.items)))
stmt_step (stmt_layer.While condition body at) = within (then_shown (expr_shown condition.value) (all_shown body.items))
stmt_step (stmt_layer.Foreach slot source body at) = within (then_shown (source_shown source) (all_shown body.items))
stmt_step (stmt_layer.Match own subject clauses at) = then_shown (expr_shown subject.value) (within (all_shown clauses.items))
stmt_step (stmt_layer.Return value at) = if_value value
stmt_step (stmt_layer.Block stmts at) = within (all_shown stmts.items)
stmt_step (stmt_layer.Break at) = nothing_shown
stmt_step (stmt_layer.Continue at) = nothing_shown

abbrev pub clause_step : TypedClauseOf Shown → Shown
clause_step c = all_shown c.stmts.items

abbrev pub showing : TypedStmtSteps Shown
showing = record { stmt = stmt_step; clause = clause_step }

abbrev pub stmt_shown : TypedStmt → Shown
stmt_shown = of_typed_stmt showing

abbrev pub stmts_shown : List TypedStmt → Shown
stmts_shown ss = all_shown (map stmt_shown ss)

-- ---- of tasks: of what is left the events that are made on the way through

abbrev pub loop_shown : Loop → Shown
loop_shown (AsLongAs condition body) = then_shown (expr_shown condition) (stmts_shown body)
loop_shown (OverRange end slot own body) = stmts_shown body
loop_shown (OverList slot own body) = stmts_shown body

abbrev pub branch_shown : Branch → Shown
branch_shown (Whole e) = expr_shown e
branch_shown (These ops) = ops_shown ops
branch_shown (Kept slot type ops) = ops_shown ops
branch_shown (Block body) = stmts_shown body
branch_shown (Round loop) = loop_shown loop
branch_shown (Rows own rows) = all_shown (map (λ r. stmts_shown r.body) rows)

abbrev pub task_shown : Task → Shown
task_shown (Eval e) = expr_shown e
task_shown (Exec s) = stmt_shown s
task_shown (Do o) = op_shown o
task_shown (Get slot narrowed) = nothing_shown
task_shown (Choose first second) = within (then_shown (branch_shown first) (branch_shown second))
task_shown (Turn loop) = within (loop_shown loop)
task_shown (Guard vs) = nothing_shown

abbrev pub tasks_shown : List Task → Shown
tasks_shown [] = nothing_shown
tasks_shown (t ∷ ts) = then_shown (task_shown t) (tasks_shown ts)

-- In front of a loop's next turn nothing is shown, and in front of the end of what a trap guards nothing that must not be cut off: so
-- neither a `break` nor a panic drops any of it. `n` is the size of what stands in front of these tasks, and `m` how much of it must not
-- be cut off.
abbrev pub AheadOf : (n m : ℕ) → List Task → Type 0
AheadOf n m [] = ⊤
AheadOf n m (Turn loop ∷ ts) = (n ≡ 0) × AheadOf n m ts
AheadOf n m (Guard vs ∷ ts) = (m ≡ 0) × AheadOf n m ts
AheadOf n m (Eval e ∷ ts) = AheadOf (n + (expr_shown e).size) (m + (expr_shown e).messages) ts
AheadOf n m (Exec s ∷ ts) = AheadOf (n + (stmt_shown s).size) (m + (stmt_shown s).messages) ts
AheadOf n m (Do o ∷ ts) = AheadOf (n + (op_shown o).size) (m + (op_shown o).messages) ts
AheadOf n m (Get slot narrowed ∷ ts) = AheadOf n m ts
AheadOf n m (Choose first second ∷ ts) = AheadOf n m ts

-- just these steps are left to be made, none in a part that may be left out or done again
pub record Lasts (ts : List Task) (steps : List Step) : Type 0 where
  pub wrong : (tasks_shown ts).wrong ≡ 0
  pub left : (tasks_shown ts).own [] ≡ steps
  pub ahead : AheadOf 0 0 ts
