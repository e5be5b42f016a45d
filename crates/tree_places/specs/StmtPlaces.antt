-- The places of statements and of what stands in them: those of their first tokens.
use Rattle.bal_base.specs.declared.place.Place.{Place}
use Rattle.bal_tree.specs.declared.action.Rhs.{Rhs}
use Rattle.bal_tree.specs.declared.action.Rhs.TheVariants.{Expr as ExprRhs, Action as ActionRhs}
use Rattle.bal_tree.specs.declared.action.Action.{Action, Prefix', Start, WaitAny, WaitAll, Flush, Receive, Send, SyncSend}
use Rattle.bal_tree.specs.declared.stmt.Target.{Target}
use Rattle.bal_tree.specs.declared.stmt.Target.TheVariants.{Name as NameTarget, Index as IndexTarget, Field as FieldTarget}
use Rattle.bal_tree.specs.declared.stmt.Else.TheOpen as layer
use Rattle.bal_tree.specs.declared.stmt.Stmt.{Stmt}
use Rattle.bal_tree.specs.StmtLayers.{ElseOf, StmtOf, StmtSteps, of_stmt}
use Rattle.tree_places.specs.ExprPlaces.{place_of_expr}

abbrev pub place_of_action : Action → Place
place_of_action (Prefix' op _ action at) = at
place_of_action (Start call at) = at
place_of_action (WaitAny names at) = at
place_of_action (WaitAll members at) = at
place_of_action (Flush peer at) = at
place_of_action (Receive peer at) = at
place_of_action (Send value peer at) = at
place_of_action (SyncSend value peer at) = at

abbrev pub place_of_rhs : Rhs → Place
place_of_rhs (ExprRhs e) = place_of_expr e.value
place_of_rhs (ActionRhs a) = place_of_action a.value

abbrev pub place_of_target : Target → Place
place_of_target (NameTarget n) = n.at
place_of_target (IndexTarget base index at) = at
place_of_target (FieldTarget base field at) = at

abbrev pub stmt_step : StmtOf Place → Place
stmt_step (layer.Local is_final type name value at) = at
stmt_step (layer.Assign target op value at) = at
stmt_step (layer.Ignore value at) = at
stmt_step (layer.Rhs value at) = at
stmt_step (layer.«Stmt::If» s) = s
stmt_step (layer.While condition body at) = at
stmt_step (layer.Foreach type name from range body at) = at
stmt_step (layer.Match value clauses at) = at
stmt_step (layer.Return value at) = at
stmt_step (layer.Panic value at) = at
stmt_step (layer.Break at) = at
stmt_step (layer.Continue at) = at
stmt_step (layer.«Stmt::Block» b) = b

abbrev else_step : ElseOf Place → Place
else_step (layer.«Else::If» s) = s
else_step (layer.«Else::Block» b) = b

abbrev pub placing : StmtSteps Place
placing = record { else = else_step; stmt = stmt_step; block = λ b. b.at; clause = λ c. c.at; if_stmt = λ s. s.at }

abbrev pub place_of_stmt : Stmt → Place
place_of_stmt = of_stmt placing
