-- Whether a `break` stands in statements that ends the loop around them: one in a loop within them ends that loop.
use Rattle.std.specs.Prelude.{Bool, true, false, ◌||◌, Option, Some, None}
use Rattle.std.specs.Global.{Box}
use Rattle.std.specs.List.{list_any}
use Rattle.bal_tree.specs.declared.stmt.Else.{Else}
use Rattle.bal_tree.specs.declared.stmt.Else.TheOpen as layer
use Rattle.bal_tree.specs.declared.stmt.Stmt.{Stmt}
use Rattle.bal_tree.specs.declared.stmt.Block.{Block}
use Rattle.bal_tree.specs.declared.stmt.Clause.{Clause}
use Rattle.bal_tree.specs.declared.stmt.IfStmt.{IfStmt}
use Rattle.bal_tree.specs.StmtLayers.{ElseOf, StmtOf, BlockOf, ClauseOf, IfStmtOf, StmtSteps, of_else, of_stmt, of_block, of_clause, of_if_stmt}

abbrev pub this : Bool → Bool
this b = b

abbrev pub otherwise_breaks : Option (Box Bool) → Bool
otherwise_breaks None = false
otherwise_breaks (Some b) = b.value

abbrev pub stmt_step : StmtOf Bool → Bool
stmt_step (layer.Local is_final type name value at) = false
stmt_step (layer.Assign target op value at) = false
stmt_step (layer.Ignore value at) = false
stmt_step (layer.Rhs value at) = false
stmt_step (layer.«Stmt::If» s) = s
stmt_step (layer.While condition body at) = false
stmt_step (layer.Foreach type name from range body at) = false
stmt_step (layer.Match value clauses at) = list_any this clauses.items
stmt_step (layer.Return value at) = false
stmt_step (layer.Panic value at) = false
stmt_step (layer.Break at) = true
stmt_step (layer.Continue at) = false
stmt_step (layer.«Stmt::Block» b) = b

abbrev pub else_step : ElseOf Bool → Bool
else_step (layer.«Else::If» s) = s
else_step (layer.«Else::Block» b) = b

abbrev pub if_step : IfStmtOf Bool → Bool
if_step s = s.then || otherwise_breaks s.otherwise

abbrev pub block_step : BlockOf Bool → Bool
block_step b = list_any this b.stmts.items

abbrev pub clause_step : ClauseOf Bool → Bool
clause_step c = c.body

abbrev pub breaking : StmtSteps Bool
breaking = record { else = else_step; stmt = stmt_step; block = block_step; clause = clause_step; if_stmt = if_step }

abbrev pub stmt_breaks : Stmt → Bool
stmt_breaks = of_stmt breaking

abbrev pub else_breaks : Else → Bool
else_breaks = of_else breaking

abbrev pub if_breaks : IfStmt → Bool
if_breaks = of_if_stmt breaking

abbrev pub block_breaks : Block → Bool
block_breaks = of_block breaking

abbrev pub clause_breaks : Clause → Bool
clause_breaks = of_clause breaking
