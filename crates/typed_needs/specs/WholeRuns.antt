-- Whole runs go on: of expressions, actions, statements, blocks and workers.
use Rattle.std.specs.Prelude.{ℕ, List}
use Rattle.bal_tree.specs.declared.action.Rhs.{Rhs}
use Rattle.bal_tree.specs.declared.def.Worker.{Worker}
use Rattle.bal_tree.specs.declared.expr.Expr.{Expr}
use Rattle.bal_tree.specs.declared.stmt.Block.{Block}
use Rattle.bal_tree.specs.declared.stmt.Stmt.{Stmt}
use Rattle.checks.specs.Checks.{Gives}
use Rattle.descriptors.specs.declared.names.Names.{Names}
use Rattle.needs.specs.Needs.{all_met}
use Rattle.type_model.specs.declared.answers.TypeLimit.{TypeLimit}
use Rattle.type_model.specs.declared.atoms.AtomDef.{AtomDef}
use Rattle.type_model.specs.Calls.{Asked}
use Rattle.typed_tree.specs.Listed.{Listed}
use Rattle.expr_needs.specs.ActionTable.{read_rhs}
use Rattle.expr_needs.specs.declared.expected.Expected.{Expected}
use Rattle.expr_needs.specs.ExprTable.{read_expr}
use Rattle.expr_needs.specs.Needs.{Need}
use Rattle.stmt_needs.specs.PackageTable.{worker_needs}
use Rattle.stmt_needs.specs.StmtTable.{Within, read_block, read_stmt}
use Rattle.check_words.specs.Meets.{meets}
use Rattle.check_words.specs.State.{State}
use Rattle.check_laws.specs.Laws.{IsReady}
use Rattle.check_laws.specs.StmtLaws.{HasBlock, HasUnit}
use Rattle.typed_needs.specs.Going.{GoesOn}

module _ (passes : List AtomDef → Asked → TypeLimit → Type 0) (names : Names) where
  -- from a state that is ready, where all of these are met
  abbrev pub RunGoesOn : (State → Type 0) → Listed Need → Type 0
  RunGoesOn IsReadyFor needs = (old new : State) → IsReadyFor old → all_met (meets passes names) needs old (Gives tt) new → GoesOn old new

  pub record AllRunsGoOn : Type 0 where
    pub expr : (x : Expr) (e : Expected) → RunGoesOn (IsReady e) ((read_expr x).needs e)
    pub rhs : (x : Rhs) (e : Expected) → RunGoesOn (IsReady e) ((read_rhs x).needs e)
    pub stmt : (x : Stmt) (w : Within) → RunGoesOn HasBlock ((read_stmt x).needs w)
    pub block : (x : Block) (w : Within) → RunGoesOn HasUnit ((read_block x).needs w)
    pub worker : (x : Worker) (number : ℕ) → RunGoesOn HasUnit (worker_needs number x)

abbrev pub RunsGoOn : (List AtomDef → Asked → TypeLimit → Type 0) → Type 0
RunsGoOn passes = (names : Names) → AllRunsGoOn passes names
