-- Statements of the block at hand.
use Rattle.std.specs.Prelude.{◌≡◌, ◌++◌, List, [], ◌∷◌}
use Rattle.typed_tree.specs.declared.stmt.TypedStmt.{TypedStmt}
use Rattle.check_words.specs.State.{BlockAtWork}

-- the last block has the statement at its end
pub record IsAdded (stmt : TypedStmt) (old new : List BlockAtWork) : Type 0 where
  pub kept : List BlockAtWork
  pub block : BlockAtWork
  pub is : old ≡ kept ++ block ∷ []
  pub after : new ≡ kept ++ record block { stmts = block.stmts ++ stmt ∷ [] } ∷ []
