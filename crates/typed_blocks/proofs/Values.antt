-- What is known of values: of expressions, of what an index or a field is taken of, and of what stands behind `=` or `return`.
use Rattle.std.proofs.Common.{List}
use Rattle.std.specs.Prelude.{Contains}
use Rattle.std.proofs.lemmas.List.Elements.{All-contains}
use Rattle.bal_tree.specs.declared.action.Rhs.{Rhs}
use Rattle.bal_tree.specs.declared.expr.Expr.{Expr}
use Rattle.bal_tree.specs.declared.expr.Postfix.{Postfix}
use Rattle.check_laws.specs.Laws.{PositionsAreKept}
use Rattle.check_laws.specs.StmtLaws.{StmtPositionsAreKept}
use Rattle.check_words.specs.State.{State}
use Rattle.descriptors.specs.declared.names.Names.{Names}
use Rattle.expr_needs.specs.ActionTable.{read_rhs}
use Rattle.expr_needs.specs.ExprTable.{read_expr, read_postfix}
use Rattle.operations.specs.Kinds.{IsBoolean}
use Rattle.operations.specs.Rows.{Surroundings}
use Rattle.type_model.specs.Calls.{Asked}
use Rattle.type_model.specs.Inclusion.{HasExactly}
use Rattle.type_model.specs.declared.answers.TypeLimit.{TypeLimit}
use Rattle.type_model.specs.declared.atoms.AtomDef.{AtomDef}
use Rattle.type_model.specs.declared.basic.SemType.{SemType}
use Rattle.kept_flows.specs.Flows.{BlocksSeeTheSame, ValuesKeepFlows}
use Rattle.typed_bodies.specs.Claims.{CanAct, KnowsValue}
use Rattle.typed_bodies.specs.Lines.{LinesAreTyped}
use Rattle.typed_needs.specs.Placing.{AreNamed}
use Rattle.typed_needs.specs.TypedRuns.{NamesWorkers, RunsAreTyped}
use Rattle.typed_needs.specs.WholeRuns.{AllRunsGoOn}
use Rattle.typed_stmts.specs.Assigned.{TakeValues}
use Rattle.typed_trees.proofs.Leaving.{expr-leaves, postfix-leaves, rhs-leaves}

-- all that is known below, of one package, one place and the actions of one body
pub record Below (passes : List AtomDef → Asked → TypeLimit → Type 0) (names : Names) (env : List AtomDef) (place : Surroundings) (actions : List Rhs) : Type 0 where
  pub runs : RunsAreTyped passes names env
  pub positions : PositionsAreKept passes names
  pub stmts : StmtPositionsAreKept passes names
  pub goes : AllRunsGoOn passes names
  pub values : ValuesKeepFlows passes names
  pub blocks : BlocksSeeTheSame passes names
  pub lines : LinesAreTyped passes names env place actions
  pub named : AreNamed env names place
  pub takes : TakeValues env names place
  pub truth : SemType
  pub booleans : HasExactly env truth IsBoolean

module _ (passes : List AtomDef → Asked → TypeLimit → Type 0) (names : Names) (env : List AtomDef) (place : Surroundings) (actions : List Rhs) (l : Below passes names env place actions) where
  abbrev pub Can : State → Type 0
  Can = CanAct env place actions

  pub expr-known : (x : Expr) → KnowsValue passes names env place Can (read_expr x)
  expr-known x =
      record {
        claim = λ e old new can ready run kept far. l.runs.expr x e place old new ready run kept far l.named;
        leaves = expr-leaves passes names env l.positions l.goes x;
        flow = λ e old new ready run. l.values.expr x e old new run;
      }

  pub postfix-known : (x : Postfix) → KnowsValue passes names env place Can (read_postfix x)
  postfix-known x =
      record {
        claim = λ e old new can ready run kept far. l.runs.postfix x e place old new ready run kept far l.named;
        leaves = postfix-leaves passes names env l.positions l.goes x;
        flow = λ e old new ready run. l.values.postfix x e old new run;
      }

  pub rhs-known : (x : Rhs) → Contains actions x → KnowsValue passes names env place Can (read_rhs x)
  rhs-known x among =
      record {
        claim = λ e old new can ready run kept far.
            let c : CanAct env place actions old = can in
            l.runs.rhs x e place old new (record { ready = ready; peers = All-contains (λ r. NamesWorkers r old) actions x c.peers among; results = c.results }) run kept far l.named;
        leaves = rhs-leaves passes names env l.positions l.goes x;
        flow = λ e old new ready run. l.values.rhs x e old new run;
      }
