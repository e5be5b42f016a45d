-- What pairing sees of a function: of each worker its events and its returns, in text order.
use Rattle.std.specs.Prelude.{◌++◌, ◌+◌, ◌||◌, ℕ, Bool, true, false, List, [], ◌∷◌, Option, Some, None, filter, if◌then◌else◌, length, map, not}
use Rattle.std.specs.Global.{Box}
use Rattle.bal_base.specs.declared.place.Place.{Place}
use Rattle.type_model.specs.declared.basic.BasicSet.TheVariants as basic
use Rattle.type_model.specs.declared.basic.SemType.{SemType, Basic}
use Rattle.operations.specs.Talk.{workers_in}
use Rattle.typed_tree.specs.declared.event.EventKind.{EventKind}
use Rattle.typed_tree.specs.declared.event.EventKind.TheVariants.{Send, Post, Done, Receive, Flush, Wait, End}
use Rattle.typed_tree.specs.declared.expr.TypedExpr.{TypedExpr}
use Rattle.typed_tree.specs.declared.expr.TypedExpr.TheOpen as layer
use Rattle.typed_tree.specs.declared.form.StrictForm.{StrictForm}
use Rattle.typed_tree.specs.declared.form.StrictForm.TheVariants as form
use Rattle.typed_tree.specs.declared.stmt.Source.{Source}
use Rattle.typed_tree.specs.declared.stmt.Source.TheVariants.{Range, List as ListSource}
use Rattle.typed_tree.specs.declared.stmt.TypedStmt.{TypedStmt}
use Rattle.typed_tree.specs.declared.stmt.TypedStmt.TheOpen as stmt_layer
use Rattle.typed_tree.specs.declared.stmt.UpdateTarget.{UpdateTarget}
use Rattle.typed_tree.specs.declared.stmt.UpdateTarget.TheVariants.{Local, Variable, Member as MemberTarget}
use Rattle.typed_tree.specs.declared.unit.TypedBody.{TypedBody}
use Rattle.typed_tree.specs.declared.unit.TypedBody.TheVariants.{Block as BlockBody, Expr as ValueBody}
use Rattle.typed_tree.specs.declared.unit.TypedFunction.{TypedFunction}
use Rattle.typed_tree.specs.declared.unit.TypedWorker.{TypedWorker}
use Rattle.typed_tree.specs.Exprs.{place_of, type_of}
use Rattle.typed_tree.specs.ExprLayers.{TypedExprOf, of_typed_expr}
use Rattle.typed_tree.specs.Listed.{Listed, nothing, one, ◌&◌, joined, run}
use Rattle.typed_tree.specs.SharedTypes.{sem_of}
use Rattle.typed_tree.specs.StmtLayers.{TypedStmtOf, TypedClauseOf, TypedStmtSteps, of_typed_stmt}
use Rattle.worker_pairing.specs.Events.{is_message}

pub data Mark : Type 0 where
  -- an event, its place, whether it stands in a part that may be left out or done again, and the type of what is sent or received
  Says : EventKind → Place → Bool → SemType → Mark
  -- what may end a worker early: a `check`, or a return with an expression
  Early : Mark
  -- a return, and the type of what it returns
  Returns : SemType → Place → Mark

abbrev pub nil_type : SemType
nil_type = Basic basic.Nil

-- what stands there may be left out, or done again
abbrev pub apart : Mark → Mark
apart (Says kind at inner type) = Says kind at true type
apart Early = Early
apart (Returns type at) = Returns type at

abbrev pub set_apart : Listed Mark → Listed Mark
set_apart nothing = nothing
set_apart (one m) = one (apart m)
set_apart (p & q) = set_apart p & set_apart q

-- ---- expressions and actions: of each part its type, and what is marked in it

abbrev pub With : Type 0
With = SemType × Listed Mark

abbrev pub marked : List With → Listed Mark
marked [] = nothing
marked (e ∷ es) = e.1 & marked es

-- the type of the last one, which is what is sent
abbrev pub last_type : List With → SemType
last_type [] = nil_type
last_type (e ∷ []) = e.0
last_type (e ∷ x ∷ more) = last_type (x ∷ more)

-- a wait on no worker is no event
abbrev pub wait_marks : List ℕ → Place → Listed Mark
wait_marks [] at = nothing
wait_marks (n ∷ ns) at = one (Says (Wait (n ∷ ns)) at false nil_type)

-- an alternate wait for nothing at all is none of the language's, and is refused as one that may be left out
abbrev pub alternate_marks : List (Option ℕ) → Place → Listed Mark
alternate_marks [] at = one (Says (Wait []) at true nil_type)
alternate_marks (name ∷ names) at = wait_marks (workers_in (name ∷ names)) at

abbrev pub form_marks : StrictForm → (sent gets : SemType) → Place → Listed Mark
form_marks (form.Literal c) sent gets at = nothing
form_marks (form.Constant c) sent gets at = nothing
form_marks (form.Variable m) sent gets at = nothing
form_marks (form.FunctionName unit) sent gets at = nothing
form_marks (form.Operator op) sent gets at = nothing
form_marks (form.Is t) sent gets at = nothing
form_marks (form.Cast t) sent gets at = nothing
form_marks (form.List atom immutable) sent gets at = nothing
form_marks (form.Mapping atom immutable) sent gets at = nothing
form_marks form.Error sent gets at = nothing
form_marks (form.Read how) sent gets at = nothing
form_marks (form.Call called) sent gets at = nothing
form_marks (form.Library call atom cast) sent gets at = nothing
form_marks (form.Start started) sent gets at = nothing
form_marks (form.Send peer) sent gets at = one (Says (Send peer) at false sent)
form_marks (form.SyncSend peer) sent gets at = one (Says (Post peer) at false sent) & one (Says (Done peer) at false nil_type)
form_marks (form.Receive peer) sent gets at = one (Says (Receive peer) at false gets)
form_marks (form.Flush peer) sent gets at = one (Says (Flush peer) at false nil_type)
form_marks (form.WaitAny names) sent gets at = alternate_marks names at
form_marks (form.WaitAll atom names) sent gets at = wait_marks (workers_in names) at

-- a panic goes on behind the trap that guards a message, which so may be left out
abbrev pub inside_trap : Mark → Mark
inside_trap (Says kind at inner type) = Says kind at (is_message kind || inner) type
inside_trap Early = Early
inside_trap (Returns type at) = Returns type at

abbrev pub guarded : Listed Mark → Listed Mark
guarded nothing = nothing
guarded (one m) = one (inside_trap m)
guarded (p & q) = guarded p & guarded q

-- a `checkpanic` never ends a worker with an error
abbrev pub if_checked : Bool → Listed Mark
if_checked true = nothing
if_checked false = one Early

-- an anonymous function is none of its worker's
abbrev pub expr_step : TypedExprOf With → With
expr_step (layer.Strict form operands type at) =
    (sem_of type, marked operands.items & form_marks form (last_type operands.items) (sem_of type) at)
expr_step (layer.Implied value type at) = (sem_of type, nothing)
expr_step (layer.Local slot narrowed type at) = (sem_of type, nothing)
expr_step (layer.And left right type at) = (sem_of type, left.value.1 & set_apart right.value.1)
expr_step (layer.Or left right type at) = (sem_of type, left.value.1 & set_apart right.value.1)
expr_step (layer.Conditional condition middle last type at) =
    (sem_of type, condition.value.1 & set_apart middle.value.1 & set_apart last.value.1)
expr_step (layer.Elvis own left right type at) = (sem_of type, left.value.1 & set_apart right.value.1)
expr_step (layer.Check panics own operand type at) = (sem_of type, operand.value.1 & if_checked panics)
expr_step (layer.Trap operand type at) = (sem_of type, guarded operand.value.1)
expr_step (layer.Function function value type at) = (sem_of type, nothing)
expr_step (layer.Parens inner type at) = (sem_of type, inner.value.1)

abbrev pub typed_marks : TypedExpr → With
typed_marks = of_typed_expr expr_step

abbrev pub expr_marks : TypedExpr → Listed Mark
expr_marks e = (typed_marks e).1

abbrev pub exprs_marks : List TypedExpr → Listed Mark
exprs_marks es = joined (map expr_marks es)

-- ---- statements

abbrev pub target_marks : UpdateTarget → Listed Mark
target_marks (Local slot narrowed type) = nothing
target_marks (Variable m) = nothing
target_marks (MemberTarget own read container key type) = expr_marks container.value & expr_marks key.value

abbrev pub source_marks : Source → Listed Mark
source_marks (Range own end from to) = expr_marks from.value & expr_marks to.value
source_marks (ListSource own list) = expr_marks list.value

abbrev pub return_marks : Option (Box TypedExpr) → Place → Listed Mark
return_marks None at = one (Returns nil_type at)
return_marks (Some e) at = expr_marks e.value & one Early & one (Returns (sem_of (type_of e.value)) at)

abbrev pub stmt_step : TypedStmtOf (Listed Mark) → Listed Mark
stmt_step (stmt_layer.Set slot value at) = expr_marks value.value
stmt_step (stmt_layer.Perform form operands at) = exprs_marks operands.items
stmt_step (stmt_layer.Update target op value at) = target_marks target & expr_marks value.value
stmt_step (stmt_layer.If condition first second at) =
    expr_marks condition.value & set_apart (joined first.items) & set_apart (joined second.items)
stmt_step (stmt_layer.While condition body at) = set_apart (expr_marks condition.value & joined body.items)
stmt_step (stmt_layer.Foreach slot source body at) = set_apart (source_marks source & joined body.items)
stmt_step (stmt_layer.Match own subject clauses at) = expr_marks subject.value & set_apart (joined clauses.items)
stmt_step (stmt_layer.Return value at) = return_marks value at
stmt_step (stmt_layer.Block stmts at) = set_apart (joined stmts.items)
stmt_step (stmt_layer.Break at) = nothing
stmt_step (stmt_layer.Continue at) = nothing

abbrev pub clause_step : TypedClauseOf (Listed Mark) → Listed Mark
clause_step c = joined c.stmts.items

abbrev pub marking : TypedStmtSteps (Listed Mark)
marking = record { stmt = stmt_step; clause = clause_step }

abbrev pub stmts_marks : List TypedStmt → Listed Mark
stmts_marks ss = joined (map (of_typed_stmt marking) ss)

-- ---- workers

-- an event, with whether it stands in the initial part, whether in a part that may be left out or done again, and whether its worker may
-- have ended early before it
pub record Saying : Type 0 where
  pub kind : EventKind
  pub at : Place
  pub initial : Bool
  pub inner : Bool
  pub early : Bool
  pub type : SemType

-- a return outside the initial part, and how many events stand before it
pub record Returning : Type 0 where
  pub before : ℕ
  pub type : SemType
  pub at : Place

pub record Member : Type 0 where
  pub sayings : List Saying
  pub returns : List Returning
  -- what it may return
  pub result : SemType

-- the workers of a function, the default one first
abbrev pub Members : Type 0
Members = List Member

abbrev pub kinds : Member → List EventKind
kinds m = map (λ s. s.kind) m.sayings

-- ---- from marks to events and returns

-- what is known of a worker by the marks so far
pub record SoFar : Type 0 where
  pub sayings : List Saying
  pub returns : List Returning
  pub early : Bool

abbrev says : SoFar → EventKind → Place → Bool → Bool → SemType → List Saying
says r kind at initial inner type =
    r.sayings ++ record { kind = kind; at = at; initial = initial; inner = inner; early = r.early; type = type } ∷ []

abbrev gives_back : SoFar → SemType → Place → List Returning
gives_back r type at = r.returns ++ record { before = length r.sayings; type = type; at = at } ∷ []

-- one mark more, in the initial part or behind it: in the initial part no worker runs, so a return there ends none
abbrev pub with_mark : Bool → Mark → SoFar → SoFar
with_mark initial (Says kind at inner type) r = record { sayings = says r kind at initial inner type; returns = r.returns; early = r.early }
with_mark initial Early r = record { sayings = r.sayings; returns = r.returns; early = if initial then r.early else true }
with_mark initial (Returns type at) r =
    record { sayings = r.sayings; returns = if initial then r.returns else gives_back r type at; early = r.early }

abbrev pub nothing_yet : SoFar
nothing_yet = record { sayings = []; returns = []; early = false }

-- a worker with this result type, of what is marked in its initial part and behind it; its end is its last event
abbrev pub member_of : SemType → (initial rest : Listed Mark) → Place → Member
member_of result initial rest end =
    let r = run (with_mark false) (rest & one (Says End end false nil_type)) (run (with_mark true) initial nothing_yet) in
    record { sayings = r.sayings; returns = r.returns; result = result }

abbrev pub named_member : TypedWorker → Member
named_member w = member_of (sem_of w.unit.result) nothing (stmts_marks w.stmts.items) w.close

-- the end of a body that is an expression stands where that begins
abbrev pub members_of_body : SemType → TypedBody → Members
members_of_body result (BlockBody initial workers rest ends close) =
    member_of result (stmts_marks initial.items) (stmts_marks rest.items) close ∷ map named_member workers.items
members_of_body result (ValueBody value) = member_of result nothing (expr_marks value.value) (place_of value.value) ∷ []

abbrev pub members_of : TypedFunction → Members
members_of f = members_of_body (sem_of f.unit.result) f.body

-- ---- text order: the initial part, the named workers, and then the rest of the default one

pub record Numbered : Type 0 where
  pub worker : ℕ
  pub number : ℕ
  pub saying : Saying

abbrev pub numbered_from : ℕ → ℕ → List Saying → List Numbered
numbered_from w n [] = []
numbered_from w n (s ∷ ss) = record { worker = w; number = n; saying = s } ∷ numbered_from w (n + 1) ss

abbrev pub is_initial : Numbered → Bool
is_initial e = e.saying.initial

abbrev pub in_turn : ℕ → Members → List Numbered
in_turn w [] = []
in_turn w (m ∷ ms) = numbered_from w 0 m.sayings ++ in_turn (w + 1) ms

abbrev pub in_text : Members → List Numbered
in_text [] = []
in_text (own ∷ named) =
    filter is_initial (numbered_from 0 0 own.sayings) ++ in_turn 1 named ++ filter (λ e. not (is_initial e)) (numbered_from 0 0 own.sayings)
