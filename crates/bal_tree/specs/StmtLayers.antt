-- Layers of statements: a tree with something in place of each part, and what a step for each kind of tree makes of a whole one.
use Rattle.bal_tree.specs.declared.stmt.Else.{Else, Else-F, fold-Else}
use Rattle.bal_tree.specs.declared.stmt.Stmt.{Stmt, Stmt-F, fold-Stmt}
use Rattle.bal_tree.specs.declared.stmt.Block.{Block, Block-F, fold-Block}
use Rattle.bal_tree.specs.declared.stmt.Clause.{Clause, Clause-F, fold-Clause}
use Rattle.bal_tree.specs.declared.stmt.IfStmt.{IfStmt, IfStmt-F, fold-IfStmt}

module _ (A : Type 0) where
  abbrev pub ElseOf : Type 0
  ElseOf = Else-F A A A A A

  abbrev pub StmtOf : Type 0
  StmtOf = Stmt-F A A A A A

  abbrev pub BlockOf : Type 0
  BlockOf = Block-F A A A A A

  abbrev pub ClauseOf : Type 0
  ClauseOf = Clause-F A A A A A

  abbrev pub IfStmtOf : Type 0
  IfStmtOf = IfStmt-F A A A A A

  -- what is made of each kind of tree, from what was made of its parts
  pub record StmtSteps : Type 0 where
    pub else : ElseOf → A
    pub stmt : StmtOf → A
    pub block : BlockOf → A
    pub clause : ClauseOf → A
    pub if_stmt : IfStmtOf → A

module _ {A : Type 0} (s : StmtSteps A) where
  abbrev pub of_else : Else → A
  of_else = fold-Else A A A A A s.else s.stmt s.block s.clause s.if_stmt

  abbrev pub of_stmt : Stmt → A
  of_stmt = fold-Stmt A A A A A s.else s.stmt s.block s.clause s.if_stmt

  abbrev pub of_block : Block → A
  of_block = fold-Block A A A A A s.else s.stmt s.block s.clause s.if_stmt

  abbrev pub of_clause : Clause → A
  of_clause = fold-Clause A A A A A s.else s.stmt s.block s.clause s.if_stmt

  abbrev pub of_if_stmt : IfStmt → A
  of_if_stmt = fold-IfStmt A A A A A s.else s.stmt s.block s.clause s.if_stmt
