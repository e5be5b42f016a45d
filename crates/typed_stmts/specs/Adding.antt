-- A statement more in the block at hand.
use Rattle.std.specs.Prelude.{Bool, List, [], ◌++◌, ◌∷◌, ◌≡◌}
use Rattle.check_words.specs.State.{BlockAtWork, State}
use Rattle.operations.specs.Rows.{Surroundings}
use Rattle.tree_promises.specs.MadeStmts.{AreTypedStmts, IsTypedStmt}
use Rattle.type_model.specs.declared.atoms.AtomDef.{AtomDef}
use Rattle.typed_tree.specs.declared.stmt.TypedStmt.{TypedStmt}

-- A statement of which this holds stands behind those of the block at hand. On that block stood these, which are gone.
pub record AddsStmt (P : TypedStmt → Type 0) (waiting : List BlockAtWork) (old new : State) : Type 0 where
  pub around : List BlockAtWork
  pub block : BlockAtWork
  pub stmt : TypedStmt
  pub was : old.blocks ≡ around ++ block ∷ waiting
  pub now : new.blocks ≡ around ++ record block { stmts = block.stmts ++ stmt ∷ [] } ∷ []
  pub holds : P stmt

-- `inside`: it stands in a loop
module _ (env : List AtomDef) (place : Surroundings) (inside : Bool) where
  abbrev pub AddsTyped : List BlockAtWork → State → State → Type 0
  AddsTyped = AddsStmt (IsTypedStmt env place inside)

  abbrev pub IsTypedBlock : BlockAtWork → Type 0
  IsTypedBlock b = AreTypedStmts env place inside b.stmts
