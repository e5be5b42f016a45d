-- Layers of typed statements: a tree with something in place of each part, and what a step for each kind of tree makes of a whole one.
use Rattle.typed_tree.specs.declared.stmt.TypedStmt.{TypedStmt, TypedStmt-F, fold-TypedStmt}
use Rattle.typed_tree.specs.declared.stmt.TypedClause.{TypedClause, TypedClause-F, fold-TypedClause}

module _ (A : Type 0) where
  abbrev pub TypedStmtOf : Type 0
  TypedStmtOf = TypedStmt-F A A

  abbrev pub TypedClauseOf : Type 0
  TypedClauseOf = TypedClause-F A A

  -- what is made of each kind of tree, from what was made of its parts
  pub record TypedStmtSteps : Type 0 where
    pub stmt : TypedStmtOf → A
    pub clause : TypedClauseOf → A

module _ {A : Type 0} (s : TypedStmtSteps A) where
  abbrev pub of_typed_stmt : TypedStmt → A
  of_typed_stmt = fold-TypedStmt A A s.stmt s.clause

  abbrev pub of_typed_clause : TypedClause → A
  of_typed_clause = fold-TypedClause A A s.stmt s.clause
