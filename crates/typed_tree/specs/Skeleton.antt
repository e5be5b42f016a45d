-- The events of a function by its syntax: what each worker's statements show in text order, and the event that each sight is.
use Rattle.std.specs.Prelude.{ℕ, ◌+◌, ◌==◌, List, [], ◌∷◌, ◌++◌, map, Bool, true, false, Option, Some, None, if◌then◌else◌, nat_eq}
use Rattle.std.specs.Cmp.Lexicographic.{pointwise}
use Rattle.bal_base.specs.declared.place.Place.{Place}
use Rattle.bal_base.specs.declared.text.Name.{Name}
use Rattle.bal_tree.specs.declared.name.Prefix.{Prefix}
use Rattle.bal_tree.specs.declared.name.QualifiedName.{QualifiedName}
use Rattle.bal_tree.specs.declared.action.Rhs.{Rhs}
use Rattle.bal_tree.specs.declared.action.Rhs.TheVariants.{Expr as ExprRhs, Action as ActionRhs}
use Rattle.bal_tree.specs.declared.action.Action.{Action, Prefix', Start, WaitAny, WaitAll, Flush as FlushAction, Receive as ReceiveAction, Send as SendAction, SyncSend}
use Rattle.bal_tree.specs.declared.action.ActionOp.{ActionOp}
use Rattle.bal_tree.specs.declared.action.ActionOp.TheVariants.{Check, CheckPanic, Trap}
use Rattle.bal_tree.specs.declared.action.Peer.{Peer}
use Rattle.bal_tree.specs.declared.action.Peer.TheVariants.{Word as WordPeer, Function as FunctionPeer}
use Rattle.bal_tree.specs.declared.action.WaitMember.{WaitMember}
use Rattle.bal_tree.specs.declared.expr.Expr.{Expr}
use Rattle.bal_tree.specs.declared.stmt.Else.TheOpen as layer
use Rattle.bal_tree.specs.declared.stmt.Else.{Else}
use Rattle.bal_tree.specs.declared.stmt.Stmt.{Stmt}
use Rattle.bal_tree.specs.declared.stmt.Block.{Block, out-Block}
use Rattle.bal_tree.specs.declared.stmt.Clause.{Clause}
use Rattle.bal_tree.specs.declared.stmt.IfStmt.{IfStmt}
use Rattle.bal_tree.specs.declared.stmt.Target.{Target}
use Rattle.bal_tree.specs.declared.stmt.Target.TheVariants.{Name as NameTarget, Index as IndexTarget, Field as FieldTarget}
use Rattle.bal_tree.specs.declared.stmt.Range.{Range}
use Rattle.bal_tree.specs.declared.def.Def.{Def}
use Rattle.bal_tree.specs.declared.def.Def.TheVariants.{«Type» as TypeOf, Const, Variable, Function}
use Rattle.bal_tree.specs.declared.def.Body.{Body}
use Rattle.bal_tree.specs.declared.def.Body.TheVariants.{Block as BlockBody, Expr as ExprBody}
use Rattle.bal_tree.specs.declared.def.Worker.{Worker}
use Rattle.bal_tree.specs.StmtLayers.{ElseOf, StmtOf, BlockOf, ClauseOf, IfStmtOf, StmtSteps, of_else, of_stmt, of_block, of_clause, of_if_stmt}
use Rattle.typed_tree.specs.declared.event.EventKind.{EventKind}
use Rattle.typed_tree.specs.declared.event.EventKind.TheVariants.{Send, Post, Done, Receive, Flush, Wait, End}
use Rattle.typed_tree.specs.declared.event.SeenEvent.{SeenEvent}
use Rattle.typed_tree.specs.Checking.{call_keeps_on, expr_keeps_on, postfix_keeps_on}
use Rattle.typed_tree.specs.Listed.{Listed, nothing, one, ◌&◌, joined, if_there, if_boxed, run}

-- what is seen in a worker: a `check` or a `return` with an expression, which may end it early, or an event
pub data Sight : Type 0 where
  Early : Sight
  Sees : EventKind → Place → Sight

abbrev pub early_unless : Bool → Listed Sight
early_unless true = nothing
early_unless false = one Early

abbrev pub in_expr : Expr → Listed Sight
in_expr e = early_unless (expr_keeps_on e)

-- ---- the numbers of workers; `own` is the worker that names them

-- the number of the first worker with the name, where that of the first of these is n
abbrev pub number_from : ℕ → List Worker → Name → Option ℕ
number_from n [] name = None
number_from n (w ∷ ws) name = if pointwise nat_eq w.name.name name then Some n else number_from (n + 1) ws name

abbrev pub other_than : ℕ → Option ℕ → Option ℕ
other_than own None = None
other_than own (Some n) = if n == own then None else Some n

abbrev pub peer_number : List Worker → ℕ → Peer → Option ℕ
peer_number workers own (WordPeer w) = other_than own (number_from 1 workers w.name)
peer_number workers own (FunctionPeer at) = other_than own (Some 0)

-- a name with a prefix is that of no worker
abbrev pub number_of_name : List Worker → Option Prefix → Name → Option ℕ
number_of_name workers None name = number_from 1 workers name
number_of_name workers (Some prefix) name = None

-- the numbers that are there, in order
abbrev pub and_then : Option ℕ → List ℕ → List ℕ
and_then None ns = ns
and_then (Some n) ns = n ∷ ns

abbrev pub those_there : List (Option ℕ) → List ℕ
those_there [] = []
those_there (n ∷ ns) = and_then n (those_there ns)

abbrev pub number_of : List Worker → QualifiedName → Option ℕ
number_of workers q = number_of_name workers q.prefix q.word.name

abbrev pub number_of_member : List Worker → WaitMember → Option ℕ
number_of_member workers m = number_of workers m.name

-- the workers among the names, in order
abbrev pub waited : List Worker → List QualifiedName → List ℕ
waited workers names = those_there (map (number_of workers) names)

abbrev pub waited_members : List Worker → List WaitMember → List ℕ
waited_members workers members = those_there (map (number_of_member workers) members)

-- ---- actions: a word before one counts behind it, and what it sends before it

abbrev pub op_sights : ActionOp → Listed Sight
op_sights Check = one Early
op_sights CheckPanic = nothing
op_sights Trap = nothing

-- a wait on no worker is no event
abbrev pub waits : List ℕ → Place → Listed Sight
waits [] at = nothing
waits (n ∷ ns) at = one (Sees (Wait (n ∷ ns)) at)

abbrev pub as_it_is : Listed Sight → Listed Sight
as_it_is p = p

abbrev pub target_sights : Target → Listed Sight
target_sights (NameTarget n) = nothing
target_sights (IndexTarget base index at) = early_unless (postfix_keeps_on base.value) & in_expr index.value
target_sights (FieldTarget base field at) = early_unless (postfix_keeps_on base.value)

abbrev pub range_sights : Range → Listed Sight
range_sights r = in_expr r.end.value

module _ (workers : List Worker) (own : ℕ) where
  abbrev pub action_sights : Action → Listed Sight
  action_sights (Prefix' op _ action at) = action_sights action & op_sights op
  action_sights (Start call at) = early_unless (call_keeps_on call)
  action_sights (WaitAny names at) = waits (waited workers names.items) at
  action_sights (WaitAll members at) = waits (waited_members workers members.items) at
  action_sights (FlushAction peer at) = one (Sees (Flush (peer_number workers own peer)) at)
  action_sights (ReceiveAction peer at) = one (Sees (Receive (peer_number workers own peer)) at)
  action_sights (SendAction value peer at) = in_expr value.value & one (Sees (Send (peer_number workers own peer)) at)
  action_sights (SyncSend value peer at) =
      in_expr value.value & one (Sees (Post (peer_number workers own peer)) at) & one (Sees (Done (peer_number workers own peer)) at)

  abbrev pub rhs_sights : Rhs → Listed Sight
  rhs_sights (ExprRhs e) = in_expr e.value
  rhs_sights (ActionRhs a) = action_sights a.value

  abbrev pub return_sights : Option Rhs → Listed Sight
  return_sights None = nothing
  return_sights (Some value) = rhs_sights value & one Early

  abbrev pub stmt_step : StmtOf (Listed Sight) → Listed Sight
  stmt_step (layer.Local is_final t name value at) = rhs_sights value
  stmt_step (layer.Assign target op value at) = target_sights target & rhs_sights value
  stmt_step (layer.Ignore value at) = rhs_sights value
  stmt_step (layer.Rhs value at) = rhs_sights value
  stmt_step (layer.«Stmt::If» s) = s
  stmt_step (layer.While condition body at) = in_expr condition.value & body
  stmt_step (layer.Foreach t name from range body at) = in_expr from.value & if_there range_sights range & body
  stmt_step (layer.Match value clauses at) = in_expr value.value & joined clauses.items
  stmt_step (layer.Return value at) = return_sights value
  stmt_step (layer.Panic value at) = in_expr value.value
  stmt_step (layer.Break at) = nothing
  stmt_step (layer.Continue at) = nothing
  stmt_step (layer.«Stmt::Block» b) = b

  abbrev pub else_step : ElseOf (Listed Sight) → Listed Sight
  else_step (layer.«Else::If» s) = s
  else_step (layer.«Else::Block» b) = b

  abbrev pub if_step : IfStmtOf (Listed Sight) → Listed Sight
  if_step s = in_expr s.condition.value & s.then & if_boxed as_it_is s.otherwise

  abbrev pub block_step : BlockOf (Listed Sight) → Listed Sight
  block_step b = joined b.stmts.items

  abbrev pub clause_step : ClauseOf (Listed Sight) → Listed Sight
  clause_step c = c.body

  abbrev pub seeing : StmtSteps (Listed Sight)
  seeing = record { else = else_step; stmt = stmt_step; block = block_step; clause = clause_step; if_stmt = if_step }

  abbrev pub stmt_sights : Stmt → Listed Sight
  stmt_sights = of_stmt seeing

  abbrev pub else_sights : Else → Listed Sight
  else_sights = of_else seeing

  abbrev pub if_sights : IfStmt → Listed Sight
  if_sights = of_if_stmt seeing

  abbrev pub block_sights : Block → Listed Sight
  block_sights = of_block seeing

  abbrev pub clause_sights : Clause → Listed Sight
  clause_sights = of_clause seeing

  abbrev pub stmts_sights : List Stmt → Listed Sight
  stmts_sights ss = joined (map stmt_sights ss)

-- ---- from what is seen to events: they are numbered from 0 in each worker

pub record Progress : Type 0 where
  pub seen : List SeenEvent
  pub next : ℕ
  pub early : Bool

abbrev pub seen_event : ℕ → ℕ → Place → EventKind → Bool → SeenEvent
seen_event worker number at kind early =
    record { event = record { worker = worker; number = number; at = at }; kind = kind; after_early = early }

-- in this worker, and where `counts`, outside the initial part
abbrev pub see : ℕ → Bool → Sight → Progress → Progress
see worker counts Early p = record { seen = p.seen; next = p.next; early = if counts then true else p.early }
see worker counts (Sees kind at) p =
    record { seen = p.seen ++ seen_event worker p.next at kind p.early ∷ []; next = p.next + 1; early = p.early }

abbrev pub at_first : Progress
at_first = record { seen = []; next = 0; early = false }

-- the events of a worker, of what is seen in the initial part and behind it
abbrev pub events_of_worker : ℕ → Listed Sight → Listed Sight → List SeenEvent
events_of_worker worker initial rest = (run (see worker true) rest (run (see worker false) initial at_first)).seen

abbrev pub ends : Place → Listed Sight
ends at = one (Sees End at)

abbrev pub place_of_end : Block → Place
place_of_end b = (out-Block b).close

-- an event for each `Sees`: those of the default worker, of a body that is an expression, and of a named worker
abbrev pub events_of_default : List Worker → List Stmt → List Stmt → Place → List SeenEvent
events_of_default workers initial rest close =
    events_of_worker 0 (stmts_sights workers 0 initial) (stmts_sights workers 0 rest & ends close)

-- an expression has no closing brace: its end stands at the body's place
abbrev pub events_of_value : Expr → Place → List SeenEvent
events_of_value value at = events_of_worker 0 nothing (in_expr value & ends at)

abbrev pub events_of_named : List Worker → ℕ → Worker → List SeenEvent
events_of_named workers own w = events_of_worker own nothing (block_sights workers own w.body & ends (place_of_end w.body))

-- the events of these workers, where the number of the first is n
abbrev pub events_from : List Worker → ℕ → List Worker → List SeenEvent
events_from workers n [] = []
events_from workers n (w ∷ ws) = events_of_named workers n w ++ events_from workers (n + 1) ws

abbrev pub events_of_block : List Worker → List Stmt → List Stmt → Place → List SeenEvent
events_of_block workers initial rest close = events_of_default workers initial rest close ++ events_from workers 1 workers

abbrev pub events_of_body : Body → List SeenEvent
events_of_body (BlockBody initial workers rest close at) = events_of_block workers.items initial.items rest.items close
events_of_body (ExprBody value at) = events_of_value value.value at

abbrev pub events_of : Def → List SeenEvent
events_of (TypeOf d) = []
events_of (Const d) = []
events_of (Variable d) = []
events_of (Function f) = events_of_body f.body
