-- Statements, blocks and clauses as whole trees: what all their needs come to is known.
use Rattle.std.specs.Prelude.{All, Contains, List}
use Rattle.bal_tree.specs.declared.action.Rhs.{Rhs}
use Rattle.bal_tree.specs.declared.expr.Expr.{Expr}
use Rattle.bal_tree.specs.declared.stmt.Block.{Block}
use Rattle.bal_tree.specs.declared.stmt.Clause.{Clause}
use Rattle.bal_tree.specs.declared.stmt.Stmt.{Stmt}
use Rattle.descriptors.specs.declared.names.Names.{Names}
use Rattle.expr_needs.specs.ExprTable.{read_expr}
use Rattle.operations.specs.Rows.{Surroundings}
use Rattle.stmt_needs.specs.StmtTable.{read_block, read_clause, read_stmt}
use Rattle.type_model.specs.Calls.{Asked}
use Rattle.type_model.specs.declared.answers.TypeLimit.{TypeLimit}
use Rattle.type_model.specs.declared.atoms.AtomDef.{AtomDef}
use Rattle.typed_blocks.specs.Actions.{actions_in_block, actions_in_clause, actions_in_stmt}
use Rattle.typed_bodies.specs.Claims.{CanAct, KnowsBlock, KnowsClauses, KnowsStmt, KnowsValue}
use Rattle.typed_needs.specs.Placing.{AreNamed}
use Rattle.typed_stmts.specs.Assigned.{TakeValues}
use Rattle.typed_tree.specs.Listed.{Listed, members}

module _ (passes : List AtomDef → Asked → TypeLimit → Type 0) (names : Names) (env : List AtomDef) (place : Surroundings) (actions : List Rhs) where
  -- all of these are among the actions of the body
  abbrev pub AreAmong : Listed Rhs → Type 0
  AreAmong listed = All (Contains actions) (members listed)

  pub record TreesAreKnown : Type 0 where
    pub expr : (x : Expr) → KnowsValue passes names env place (CanAct env place actions) (read_expr x)
    pub stmt : (x : Stmt) → AreAmong (actions_in_stmt x) → KnowsStmt passes names env place (CanAct env place actions) (read_stmt x).needs
    pub block : (x : Block) → AreAmong (actions_in_block x) → KnowsBlock passes names env place (CanAct env place actions) (read_block x).needs
    pub clause : (x : Clause) → AreAmong (actions_in_clause x) → KnowsClauses passes names env place (CanAct env place actions) (read_clause x).needs

-- Wherever statements stand whose package's variables and functions the place has, and whatever actions there are in the body.
abbrev pub AllTreesAreKnown : (List AtomDef → Asked → TypeLimit → Type 0) → Type 0
AllTreesAreKnown passes =
    (names : Names) (env : List AtomDef) (place : Surroundings) (actions : List Rhs) → AreNamed env names place → TakeValues env names place → TreesAreKnown passes names env place actions
