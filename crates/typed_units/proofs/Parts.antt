-- The two kinds of bodies, by what they need.
use Rattle.std.specs.Prelude.{All, List, false, ◌≡◌}
use Rattle.bal_tree.specs.declared.def.FunctionDef.{FunctionDef}
use Rattle.bal_tree.specs.declared.def.Worker.{Worker}
use Rattle.bal_tree.specs.declared.stmt.Stmt.{Stmt}
use Rattle.bal_base.specs.declared.place.Place.{Place}
use Rattle.check_laws.specs.StmtLaws.{HasUnit}
use Rattle.check_words.specs.State.{IsLast, State, UnitAtWork}
use Rattle.descriptors.specs.declared.names.Names.{Names}
use Rattle.bal_tree.specs.declared.expr.Expr.{Expr as ExprTree}
use Rattle.expr_needs.specs.ExprTable.{as_wanted, read_expr}
use Rattle.expr_needs.specs.Needs.{BeginsBlock, EndsFunction, EndsValueFunction, Need, WantsResult}
use Rattle.operations.specs.Rows.{Surroundings}
use Rattle.stmt_needs.specs.PackageTable.{in_initial, numbered, read_stmts, worker_needs}
use Rattle.stmt_needs.specs.StmtTable.{in_block, stmts_needs}
use Rattle.type_model.specs.Calls.{Asked}
use Rattle.type_model.specs.declared.answers.TypeLimit.{TypeLimit}
use Rattle.type_model.specs.declared.atoms.AtomDef.{AtomDef}
use Rattle.typed_blocks.specs.Actions.{actions_in_stmts}
use Rattle.typed_exprs.specs.Lines.{Run}
use Rattle.typed_needs.specs.Between.{IsKept}
use Rattle.typed_needs.specs.Waits.{AreResults}
use Rattle.typed_tree.specs.Listed.{Listed, members, one, ◌&◌}
use Rattle.typed_tree.specs.declared.unit.TypedFunction.{TypedFunction}
use Rattle.typed_units.specs.Peers.{ActsOnPeers}
use Rattle.typed_units.specs.Functions.{ComesToFunction, HasFunctions, inside_of}

module _ (passes : List AtomDef → Asked → TypeLimit → Type 0) (names : Names) (env : List AtomDef) (place : Surroundings) where
  -- the needs of a body with statements: of the initial part, of the workers and of the rest
  abbrev pub block_body_needs : FunctionDef → List Stmt → List Worker → List Stmt → Place → Listed Need
  block_body_needs d initial workers rest close =
      (one BeginsBlock & stmts_needs (in_initial workers rest) (read_stmts initial)) & numbered worker_needs 1 workers
      & (one BeginsBlock & stmts_needs (in_block false) (read_stmts rest) & one (EndsFunction d close))

  -- Where its own unit is at hand, with its variables in its slots, what its workers give is what they are told to give, and each action of the default worker is of another one.
  abbrev pub BlockBodyIsTyped : Type 0
  BlockBodyIsTyped =
      (d : FunctionDef) (initial : List Stmt) (workers : List Worker) (rest : List Stmt) (close : Place) (old new : State) → HasUnit old
      → Run passes names env (block_body_needs d initial workers rest close) old new → HasFunctions passes names env place new
      → ((f : TypedFunction) → IsLast new.done.functions f → IsKept (inside_of passes names env place f) old × AreResults env (inside_of passes names env place f) old.site.results)
      → ((u : UnitAtWork) → IsLast old.units u → u.worker ≡ 0) → All (ActsOnPeers old.site.workers 0) (members (actions_in_stmts initial & actions_in_stmts rest)) → ComesToFunction passes names env place new

  -- `=> e`
  abbrev pub ValueBodyIsTyped : Type 0
  ValueBodyIsTyped =
      (d : FunctionDef) (x : ExprTree) (old new : State) → HasUnit old → Run passes names env (one WantsResult & as_wanted (read_expr x) & one (EndsValueFunction d)) old new
      → HasFunctions passes names env place new → ((f : TypedFunction) → IsLast new.done.functions f → IsKept (inside_of passes names env place f) old × AreResults env (inside_of passes names env place f) old.site.results) → ComesToFunction passes names env place new
