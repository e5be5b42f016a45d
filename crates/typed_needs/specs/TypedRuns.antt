-- What all needs of an expression or of an action come to: one typed part more.
use Rattle.std.specs.Prelude.{◌≡◌, ◌≤◌, ◌++◌, List, [], ◌∷◌, All, length, ⊤}
use Rattle.bal_tree.specs.declared.action.Action.{Action, Prefix', Start, WaitAny, WaitAll, Flush, Receive, Send, SyncSend}
use Rattle.bal_tree.specs.declared.action.Rhs.{Rhs}
use Rattle.bal_tree.specs.declared.action.Rhs.TheVariants.{Expr as ExprRhs, Action as ActionRhs}
use Rattle.bal_tree.specs.declared.expr.Call.{Call}
use Rattle.bal_tree.specs.declared.expr.Expr.{Expr}
use Rattle.bal_tree.specs.declared.expr.Postfix.{Postfix}
use Rattle.bal_tree.specs.declared.expr.Primary.{Primary}
use Rattle.checks.specs.Checks.{Gives}
use Rattle.descriptors.specs.declared.names.Names.{Names}
use Rattle.needs.specs.Needs.{all_met}
use Rattle.operations.specs.Rows.{Surroundings}
use Rattle.type_model.specs.declared.answers.TypeLimit.{TypeLimit}
use Rattle.type_model.specs.declared.atoms.AtomDef.{AtomDef}
use Rattle.type_model.specs.Calls.{Asked}
use Rattle.typed_tree.specs.declared.expr.TypedExpr.{TypedExpr}
use Rattle.typed_tree.specs.Listed.{Listed}
use Rattle.expr_needs.specs.ActionTable.{read_rhs}
use Rattle.expr_needs.specs.declared.expected.Expected.{Expected}
use Rattle.expr_needs.specs.ExprTable.{read_call, read_expr, read_postfix, read_primary}
use Rattle.expr_needs.specs.Needs.{Need}
use Rattle.check_words.specs.State.{State}
use Rattle.check_laws.specs.Laws.{IsReady}
use Rattle.tree_promises.specs.Types.{IsTypedExpr}
use Rattle.typed_needs.specs.Between.{IsKept, IsSoFar, IsTypedUnit, stood, units_in}
use Rattle.typed_needs.specs.Messages.{NamesWorker}
use Rattle.typed_needs.specs.Placing.{AreNamed}
use Rattle.typed_needs.specs.Waits.{AreResults}

-- one part more: it is typed, the functions in it are typed in units of their own, and what is kept is kept
pub record ComesToTyped (env : List AtomDef) (place : Surroundings) (old new : State) : Type 0 where
  pub part : TypedExpr
  pub found : new.found ≡ old.found ++ part ∷ []
  pub typed : IsTypedExpr env place part
  pub units : All (IsTypedUnit env place) (units_in (part ∷ []))
  pub kept : IsKept place new

-- each worker that a message is for, or from, is another worker of the function, and one of several names at least is waited for: a wait for any of none has no operation
abbrev pub NamesOfAction : Action → State → Type 0
NamesOfAction (Prefix' op _ a at) s = NamesOfAction a s
NamesOfAction (Start call at) s = ⊤
NamesOfAction (WaitAny names at) s = 1 ≤ length names.items
NamesOfAction (WaitAll members at) s = ⊤
NamesOfAction (Flush peer at) s = NamesWorker peer s
NamesOfAction (Receive peer at) s = NamesWorker peer s
NamesOfAction (Send value peer at) s = NamesWorker peer s
NamesOfAction (SyncSend value peer at) s = NamesWorker peer s

abbrev pub NamesWorkers : Rhs → State → Type 0
NamesWorkers (ExprRhs e) s = ⊤
NamesWorkers (ActionRhs a) s = NamesOfAction a.value s

-- where a state is ready, and what is kept is so, and the end is the place's
module _ (passes : List AtomDef → Asked → TypeLimit → Type 0) (names : Names) (env : List AtomDef) where
  abbrev pub RunIsTyped : (State → Surroundings → Type 0) → Listed Need → Type 0
  RunIsTyped IsReadyFor needs =
      (place : Surroundings) (old new : State) → IsReadyFor old place → all_met (stood passes names) needs old (Gives tt) new → IsKept place old
      → IsSoFar env place new → AreNamed env names place → ComesToTyped env place old new

  -- of an action also what its workers are, and what they give
  pub record IsReadyToAct (x : Rhs) (e : Expected) (s : State) (place : Surroundings) : Type 0 where
    pub ready : IsReady e s
    pub peers : NamesWorkers x s
    pub results : AreResults env place s.site.results

  pub record RunsAreTyped : Type 0 where
    pub expr : (x : Expr) (e : Expected) → RunIsTyped (λ s place. IsReady e s) ((read_expr x).needs e)
    pub postfix : (x : Postfix) (e : Expected) → RunIsTyped (λ s place. IsReady e s) ((read_postfix x).needs e)
    pub primary : (x : Primary) (e : Expected) → RunIsTyped (λ s place. IsReady e s) ((read_primary x).needs e)
    pub call : (x : Call) (e : Expected) → RunIsTyped (λ s place. IsReady e s) ((read_call x).needs e)
    pub rhs : (x : Rhs) (e : Expected) → RunIsTyped (IsReadyToAct x e) ((read_rhs x).needs e)

abbrev pub AllRunsAreTyped : (List AtomDef → Asked → TypeLimit → Type 0) → Type 0
AllRunsAreTyped passes = (names : Names) (env : List AtomDef) → RunsAreTyped passes names env
