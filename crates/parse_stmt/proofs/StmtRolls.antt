-- A fold over a statement that is put together from its parts.
use Rattle.std.proofs.Common.{◌≡◌}
use Rattle.bal_tree.specs.declared.stmt.Else.{Else, Else-F, roll-Else, map-Else, fold-roll-Else}
use Rattle.bal_tree.specs.declared.stmt.Stmt.{Stmt, Stmt-F, roll-Stmt, map-Stmt, fold-roll-Stmt}
use Rattle.bal_tree.specs.declared.stmt.Block.{Block, Block-F, roll-Block, map-Block, fold-roll-Block}
use Rattle.bal_tree.specs.declared.stmt.Clause.{Clause, Clause-F, roll-Clause, map-Clause, fold-roll-Clause}
use Rattle.bal_tree.specs.declared.stmt.IfStmt.{IfStmt, IfStmt-F, roll-IfStmt, map-IfStmt, fold-roll-IfStmt}
use Rattle.bal_tree.specs.StmtLayers.{ElseOf, StmtOf, BlockOf, ClauseOf, IfStmtOf, StmtSteps, of_else, of_stmt, of_block, of_clause, of_if_stmt}

module _ {A : Type 0} (s : StmtSteps A) where
  abbrev pub parts_of_else : Else-F Else Stmt Block Clause IfStmt → ElseOf A
  parts_of_else = map-Else Else Stmt Block Clause IfStmt A A A A A (of_else s) (of_stmt s) (of_block s) (of_clause s) (of_if_stmt s)

  pub rolled-else : (x : Else-F Else Stmt Block Clause IfStmt) → of_else s (roll-Else x) ≡ s.else (parts_of_else x)
  rolled-else x = fold-roll-Else A A A A A s.else s.stmt s.block s.clause s.if_stmt x

  abbrev pub parts_of_stmt : Stmt-F Else Stmt Block Clause IfStmt → StmtOf A
  parts_of_stmt = map-Stmt Else Stmt Block Clause IfStmt A A A A A (of_else s) (of_stmt s) (of_block s) (of_clause s) (of_if_stmt s)

  pub rolled-stmt : (x : Stmt-F Else Stmt Block Clause IfStmt) → of_stmt s (roll-Stmt x) ≡ s.stmt (parts_of_stmt x)
  rolled-stmt x = fold-roll-Stmt A A A A A s.else s.stmt s.block s.clause s.if_stmt x

  abbrev pub parts_of_block : Block-F Else Stmt Block Clause IfStmt → BlockOf A
  parts_of_block = map-Block Else Stmt Block Clause IfStmt A A A A A (of_else s) (of_stmt s) (of_block s) (of_clause s) (of_if_stmt s)

  pub rolled-block : (x : Block-F Else Stmt Block Clause IfStmt) → of_block s (roll-Block x) ≡ s.block (parts_of_block x)
  rolled-block x = fold-roll-Block A A A A A s.else s.stmt s.block s.clause s.if_stmt x

  abbrev pub parts_of_clause : Clause-F Else Stmt Block Clause IfStmt → ClauseOf A
  parts_of_clause = map-Clause Else Stmt Block Clause IfStmt A A A A A (of_else s) (of_stmt s) (of_block s) (of_clause s) (of_if_stmt s)

  pub rolled-clause : (x : Clause-F Else Stmt Block Clause IfStmt) → of_clause s (roll-Clause x) ≡ s.clause (parts_of_clause x)
  rolled-clause x = fold-roll-Clause A A A A A s.else s.stmt s.block s.clause s.if_stmt x

  abbrev pub parts_of_if_stmt : IfStmt-F Else Stmt Block Clause IfStmt → IfStmtOf A
  parts_of_if_stmt = map-IfStmt Else Stmt Block Clause IfStmt A A A A A (of_else s) (of_stmt s) (of_block s) (of_clause s) (of_if_stmt s)

  pub rolled-if_stmt : (x : IfStmt-F Else Stmt Block Clause IfStmt) → of_if_stmt s (roll-IfStmt x) ≡ s.if_stmt (parts_of_if_stmt x)
  rolled-if_stmt x = fold-roll-IfStmt A A A A A s.else s.stmt s.block s.clause s.if_stmt x
