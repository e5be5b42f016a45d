-- The law of positions for statements: where the needs of a statement are met, there is one statement more in the block at hand; where
-- those of a block are, there is one block more; behind a worker there is nothing more; and all else is what it was.
use Rattle.std.specs.Prelude.{◌≡◌, ◌≤◌, ◌++◌, ℕ, List, [], ◌∷◌, length}
use Rattle.bal_tree.specs.declared.def.Worker.{Worker}
use Rattle.bal_tree.specs.declared.stmt.Block.{Block}
use Rattle.bal_tree.specs.declared.stmt.Stmt.{Stmt}
use Rattle.descriptors.specs.declared.names.Names.{Names}
use Rattle.type_model.specs.declared.answers.TypeLimit.{TypeLimit}
use Rattle.type_model.specs.declared.atoms.AtomDef.{AtomDef}
use Rattle.type_model.specs.Calls.{Asked}
use Rattle.typed_tree.specs.declared.stmt.TypedStmt.{TypedStmt}
use Rattle.stmt_needs.specs.PackageTable.{worker_needs}
use Rattle.stmt_needs.specs.StmtTable.{Within, read_block, read_stmt}
use Rattle.check_words.specs.State.{BlockAtWork, State}
use Rattle.check_laws.specs.Laws.{IsElseSame, KeepsPositions}

-- one statement more in the block at hand
pub record IsOneStmtMore (old new : State) : Type 0 where
  pub found : new.found ≡ old.found
  pub around : List BlockAtWork
  pub block : BlockAtWork
  pub stmt : TypedStmt
  pub was : old.blocks ≡ around ++ block ∷ []
  pub now : new.blocks ≡ around ++ record block { stmts = block.stmts ++ stmt ∷ [] } ∷ []
  pub same : IsElseSame old new

-- one block more, which waits for its construct
pub record IsOneBlockMore (old new : State) : Type 0 where
  pub found : new.found ≡ old.found
  pub block : BlockAtWork
  pub blocks : new.blocks ≡ old.blocks ++ block ∷ []
  pub same : IsElseSame old new

-- nothing more
pub record IsNoMore (old new : State) : Type 0 where
  pub found : new.found ≡ old.found
  pub blocks : new.blocks ≡ old.blocks
  pub same : IsElseSame old new

-- there is a unit at hand, and a block where a statement stands
abbrev pub HasUnit : State → Type 0
HasUnit s = 1 ≤ length s.units

pub record HasBlock (s : State) : Type 0 where
  pub unit : 1 ≤ length s.units
  pub block : 1 ≤ length s.blocks

module _ (passes : List AtomDef → Asked → TypeLimit → Type 0) (names : Names) where
  pub record StmtPositionsAreKept : Type 0 where
    pub stmt : (x : Stmt) (w : Within) → KeepsPositions passes names HasBlock IsOneStmtMore ((read_stmt x).needs w)
    pub block : (x : Block) (w : Within) → KeepsPositions passes names HasUnit IsOneBlockMore ((read_block x).needs w)
    pub worker : (x : Worker) (number : ℕ) → KeepsPositions passes names HasUnit IsNoMore (worker_needs number x)

abbrev pub KeptStmtPositions : (List AtomDef → Asked → TypeLimit → Type 0) → Type 0
KeptStmtPositions passes = (names : Names) → StmtPositionsAreKept passes names
