-- The names without a prefix that statements use: as values or calls, as what is assigned to, in a pattern, or in an action.
-- With their places, in the order of the text, each as often as it stands there.
use Rattle.std.specs.Prelude.{List, map}
use Rattle.bal_tree.specs.declared.action.Rhs.{Rhs}
use Rattle.bal_tree.specs.declared.action.Rhs.TheVariants.{Expr as ExprRhs, Action as ActionRhs}
use Rattle.bal_tree.specs.declared.action.Action.{Action, Prefix', Start, WaitAny, WaitAll, Flush, Receive, Send, SyncSend}
use Rattle.bal_tree.specs.declared.action.WaitMember.{WaitMember}
use Rattle.bal_tree.specs.declared.stmt.Else.{Else}
use Rattle.bal_tree.specs.declared.stmt.Else.TheOpen as layer
use Rattle.bal_tree.specs.declared.stmt.Stmt.{Stmt}
use Rattle.bal_tree.specs.declared.stmt.Block.{Block}
use Rattle.bal_tree.specs.declared.stmt.Clause.{Clause}
use Rattle.bal_tree.specs.declared.stmt.IfStmt.{IfStmt}
use Rattle.bal_tree.specs.declared.stmt.Pattern.{Pattern}
use Rattle.bal_tree.specs.declared.stmt.Pattern.TheVariants.{Any, Value, Name as NamePattern}
use Rattle.bal_tree.specs.StmtLayers.{ElseOf, StmtOf, BlockOf, ClauseOf, IfStmtOf, StmtSteps, of_else, of_stmt, of_block, of_clause, of_if_stmt}
use Rattle.bal_tree.specs.declared.name.Word.{Word}
use Rattle.bal_tree.specs.declared.stmt.Target.{Target}
use Rattle.bal_tree.specs.declared.stmt.Target.TheVariants.{Name as NameTarget, Index as IndexTarget, Field as FieldTarget}
use Rattle.bal_tree.specs.declared.stmt.Range.{Range}
use Rattle.typed_tree.specs.Listed.{Listed, nothing, ◌&◌, joined, if_there, if_boxed}
use Rattle.tree_places.specs.UsedInExprs.{as_it_is, local_name, used_in_call, used_in_expr, used_in_postfix}

abbrev pub used_in_member_of_wait : WaitMember → Listed Word
used_in_member_of_wait m = local_name m.name

-- a peer is a worker and no variable
abbrev pub used_in_action : Action → Listed Word
used_in_action (Prefix' op _ action at) = used_in_action action
used_in_action (Start call at) = used_in_call call
used_in_action (WaitAny names at) = joined (map local_name names.items)
used_in_action (WaitAll members at) = joined (map used_in_member_of_wait members.items)
used_in_action (Flush peer at) = nothing
used_in_action (Receive peer at) = nothing
used_in_action (Send value peer at) = used_in_expr value.value
used_in_action (SyncSend value peer at) = used_in_expr value.value

abbrev pub used_in_rhs : Rhs → Listed Word
used_in_rhs (ExprRhs e) = used_in_expr e.value
used_in_rhs (ActionRhs a) = used_in_action a.value

abbrev pub used_in_target : Target → Listed Word
used_in_target (NameTarget n) = local_name n
used_in_target (IndexTarget base index at) = used_in_postfix base.value & used_in_expr index.value
used_in_target (FieldTarget base field at) = used_in_postfix base.value

abbrev pub used_in_range : Range → Listed Word
used_in_range r = used_in_expr r.end.value

-- a name in a pattern is that of a constant, unless a local hides it
abbrev pub used_in_pattern : Pattern → Listed Word
used_in_pattern (Any at) = nothing
used_in_pattern (Value v) = nothing
used_in_pattern (NamePattern n) = local_name n

abbrev pub stmt_step : StmtOf (Listed Word) → Listed Word
stmt_step (layer.Local is_final type name value at) = used_in_rhs value
stmt_step (layer.Assign target op value at) = used_in_target target & used_in_rhs value
stmt_step (layer.Ignore value at) = used_in_rhs value
stmt_step (layer.Rhs value at) = used_in_rhs value
stmt_step (layer.«Stmt::If» s) = s
stmt_step (layer.While condition body at) = used_in_expr condition.value & body
stmt_step (layer.Foreach type name from range body at) = used_in_expr from.value & if_there used_in_range range & body
stmt_step (layer.Match value clauses at) = used_in_expr value.value & joined clauses.items
stmt_step (layer.Return value at) = if_there used_in_rhs value
stmt_step (layer.Panic value at) = used_in_expr value.value
stmt_step (layer.Break at) = nothing
stmt_step (layer.Continue at) = nothing
stmt_step (layer.«Stmt::Block» b) = b

abbrev pub else_step : ElseOf (Listed Word) → Listed Word
else_step (layer.«Else::If» s) = s
else_step (layer.«Else::Block» b) = b

abbrev pub if_step : IfStmtOf (Listed Word) → Listed Word
if_step s = used_in_expr s.condition.value & s.then & if_boxed as_it_is s.otherwise

abbrev pub block_step : BlockOf (Listed Word) → Listed Word
block_step b = joined b.stmts.items

abbrev pub clause_step : ClauseOf (Listed Word) → Listed Word
clause_step c = joined (map used_in_pattern c.patterns.items) & c.body

abbrev pub using_names : StmtSteps (Listed Word)
using_names = record { else = else_step; stmt = stmt_step; block = block_step; clause = clause_step; if_stmt = if_step }

abbrev pub used_in_stmt : Stmt → Listed Word
used_in_stmt = of_stmt using_names

abbrev pub used_in_else : Else → Listed Word
used_in_else = of_else using_names

abbrev pub used_in_if : IfStmt → Listed Word
used_in_if = of_if_stmt using_names

abbrev pub used_in_block : Block → Listed Word
used_in_block = of_block using_names

abbrev pub used_in_clause : Clause → Listed Word
used_in_clause = of_clause using_names

abbrev pub used_in_stmts : List Stmt → Listed Word
used_in_stmts ss = joined (map used_in_stmt ss)
