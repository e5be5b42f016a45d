-- The names of the variables that statements assign, where they stand: also in blocks, branches, loops and clauses. A declaration assigns nothing, and
-- a store to a member assigns no variable.
use Rattle.std.specs.Prelude.{List, map}
use Rattle.bal_tree.specs.declared.stmt.Else.{Else}
use Rattle.bal_tree.specs.declared.stmt.Else.TheOpen as layer
use Rattle.bal_tree.specs.declared.stmt.Stmt.{Stmt}
use Rattle.bal_tree.specs.declared.stmt.Block.{Block}
use Rattle.bal_tree.specs.declared.stmt.Clause.{Clause}
use Rattle.bal_tree.specs.declared.stmt.IfStmt.{IfStmt}
use Rattle.bal_tree.specs.StmtLayers.{ElseOf, StmtOf, BlockOf, ClauseOf, IfStmtOf, StmtSteps, of_else, of_stmt, of_block, of_clause, of_if_stmt}
use Rattle.bal_tree.specs.declared.name.Word.{Word}
use Rattle.bal_tree.specs.declared.stmt.Target.{Target}
use Rattle.bal_tree.specs.declared.stmt.Target.TheVariants.{Name as NameTarget, Index as IndexTarget, Field as FieldTarget}
use Rattle.typed_tree.specs.Listed.{Listed, nothing, ◌&◌, joined, if_boxed}
use Rattle.tree_places.specs.UsedInExprs.{as_it_is, local_name}

abbrev pub assigned_in_target : Target → Listed Word
assigned_in_target (NameTarget n) = local_name n
assigned_in_target (IndexTarget base index at) = nothing
assigned_in_target (FieldTarget base field at) = nothing

abbrev pub stmt_step : StmtOf (Listed Word) → Listed Word
stmt_step (layer.Local is_final type name value at) = nothing
stmt_step (layer.Assign target op value at) = assigned_in_target target
stmt_step (layer.Ignore value at) = nothing
stmt_step (layer.Rhs value at) = nothing
stmt_step (layer.«Stmt::If» s) = s
stmt_step (layer.While condition body at) = body
stmt_step (layer.Foreach type name from range body at) = body
stmt_step (layer.Match value clauses at) = joined clauses.items
stmt_step (layer.Return value at) = nothing
stmt_step (layer.Panic value at) = nothing
stmt_step (layer.Break at) = nothing
stmt_step (layer.Continue at) = nothing
stmt_step (layer.«Stmt::Block» b) = b

abbrev pub else_step : ElseOf (Listed Word) → Listed Word
else_step (layer.«Else::If» s) = s
else_step (layer.«Else::Block» b) = b

abbrev pub if_step : IfStmtOf (Listed Word) → Listed Word
if_step s = s.then & if_boxed as_it_is s.otherwise

abbrev pub block_step : BlockOf (Listed Word) → Listed Word
block_step b = joined b.stmts.items

abbrev pub clause_step : ClauseOf (Listed Word) → Listed Word
clause_step c = c.body

abbrev pub assigning : StmtSteps (Listed Word)
assigning = record { else = else_step; stmt = stmt_step; block = block_step; clause = clause_step; if_stmt = if_step }

abbrev pub assigned_in_stmt : Stmt → Listed Word
assigned_in_stmt = of_stmt assigning

abbrev pub assigned_in_else : Else → Listed Word
assigned_in_else = of_else assigning

abbrev pub assigned_in_if : IfStmt → Listed Word
assigned_in_if = of_if_stmt assigning

abbrev pub assigned_in_block : Block → Listed Word
assigned_in_block = of_block assigning

abbrev pub assigned_in_clause : Clause → Listed Word
assigned_in_clause = of_clause assigning

abbrev pub assigned_in_stmts : List Stmt → Listed Word
assigned_in_stmts ss = joined (map assigned_in_stmt ss)
