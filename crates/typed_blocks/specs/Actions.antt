-- What stands behind `=`, `return` or alone in statements: the values and actions, in the order of the text.
use Rattle.std.specs.Prelude.{List, map}
use Rattle.bal_tree.specs.StmtLayers.{BlockOf, ClauseOf, ElseOf, IfStmtOf, StmtOf, StmtSteps, of_block, of_clause, of_else, of_if_stmt, of_stmt}
use Rattle.bal_tree.specs.declared.action.Rhs.{Rhs}
use Rattle.bal_tree.specs.declared.stmt.Block.{Block}
use Rattle.bal_tree.specs.declared.stmt.Clause.{Clause}
use Rattle.bal_tree.specs.declared.stmt.Else.TheOpen as layer
use Rattle.bal_tree.specs.declared.stmt.Else.{Else}
use Rattle.bal_tree.specs.declared.stmt.IfStmt.{IfStmt}
use Rattle.bal_tree.specs.declared.stmt.Stmt.{Stmt}
use Rattle.typed_tree.specs.Listed.{Listed, if_boxed, if_there, joined, nothing, one, ◌&◌}

abbrev stmt_step : StmtOf (Listed Rhs) → Listed Rhs
stmt_step (layer.Local final t name value at) = one value
stmt_step (layer.Assign target op value at) = one value
stmt_step (layer.Ignore value at) = one value
stmt_step (layer.Rhs value at) = one value
stmt_step (layer.«Stmt::If» s) = s
stmt_step (layer.While condition body at) = body
stmt_step (layer.Foreach t name from range body at) = body
stmt_step (layer.Match value clauses at) = joined clauses.items
stmt_step (layer.Return value at) = if_there one value
stmt_step (layer.Panic value at) = nothing
stmt_step (layer.Break at) = nothing
stmt_step (layer.Continue at) = nothing
stmt_step (layer.«Stmt::Block» b) = b

abbrev else_step : ElseOf (Listed Rhs) → Listed Rhs
else_step (layer.«Else::If» s) = s
else_step (layer.«Else::Block» b) = b

abbrev if_step : IfStmtOf (Listed Rhs) → Listed Rhs
if_step s = s.then & if_boxed (λ x. x) s.otherwise

abbrev block_step : BlockOf (Listed Rhs) → Listed Rhs
block_step b = joined b.stmts.items

abbrev clause_step : ClauseOf (Listed Rhs) → Listed Rhs
clause_step c = c.body

abbrev pub listing_actions : StmtSteps (Listed Rhs)
listing_actions = record { else = else_step; stmt = stmt_step; block = block_step; clause = clause_step; if_stmt = if_step }

abbrev pub actions_in_stmt : Stmt → Listed Rhs
actions_in_stmt = of_stmt listing_actions

abbrev pub actions_in_else : Else → Listed Rhs
actions_in_else = of_else listing_actions

abbrev pub actions_in_if : IfStmt → Listed Rhs
actions_in_if = of_if_stmt listing_actions

abbrev pub actions_in_block : Block → Listed Rhs
actions_in_block = of_block listing_actions

abbrev pub actions_in_clause : Clause → Listed Rhs
actions_in_clause = of_clause listing_actions

abbrev pub actions_in_stmts : List Stmt → Listed Rhs
actions_in_stmts ss = joined (map actions_in_stmt ss)
