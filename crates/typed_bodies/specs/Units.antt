-- The units of anonymous functions in statements, in the order of the text.
use Rattle.std.specs.Prelude.{List, [], ◌++◌, ◌∷◌}
use Rattle.tree_promises.specs.Placed.{Placed, stmts_placed}
use Rattle.typed_tree.specs.Listed.{members}
use Rattle.typed_tree.specs.declared.stmt.TypedClause.{TypedClause, out-TypedClause}
use Rattle.typed_tree.specs.declared.stmt.TypedStmt.{TypedStmt}

abbrev pub units_of_stmts : List TypedStmt → List Placed
units_of_stmts ss = members (stmts_placed ss)

abbrev pub units_of_clauses : List TypedClause → List Placed
units_of_clauses [] = []
units_of_clauses (c ∷ cs) = units_of_stmts (out-TypedClause c).stmts.items ++ units_of_clauses cs
