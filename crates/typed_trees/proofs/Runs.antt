-- Whole runs, from what is so of the trees.
use Rattle.std.proofs.Common.{◌≤◌, true, false, List, [], ◌∷◌, length, inl, inr, arith, refl}
use Rattle.std.specs.Prelude.{◌⊎◌, ⊤}
use Rattle.std.specs.Ptr.{null_ptr}
use Rattle.bal_base.specs.declared.place.Place.{Place}
use Rattle.bal_base.specs.declared.shape.Shape.{Nil, Bool as BoolShape, Int, Str, List', Mapping', Error', Function, Future'}
use Rattle.bal_tree.specs.declared.action.Action.{Action, Prefix', Start, WaitAny, WaitAll, Flush, Receive, Send, SyncSend}
use Rattle.bal_tree.specs.declared.action.Rhs.{Rhs}
use Rattle.bal_tree.specs.declared.action.Rhs.TheVariants.{Expr as ExprRhs, Action as ActionRhs}
use Rattle.bal_tree.specs.declared.name.QualifiedName.{QualifiedName}
use Rattle.descriptors.specs.declared.names.Names.{Names}
use Rattle.needs.specs.Needs.{in_turn}
use Rattle.operations.specs.Kinds.{IsBoolean}
use Rattle.type_model.specs.declared.answers.TypeLimit.{TypeLimit}
use Rattle.type_model.specs.declared.atoms.AtomDef.{AtomDef}
use Rattle.type_model.specs.declared.basic.BasicSet.TheVariants.{Bool as BoolOne}
use Rattle.type_model.specs.declared.basic.SemType.{SemType, Basic, Or'}
use Rattle.type_model.specs.Calls.{Asked}
use Rattle.type_model.specs.Inclusion.{HasExactly}
use Rattle.typed_tree.specs.Listed.{one, ◌&◌}
use Rattle.expr_needs.specs.ActionTable.{action_needs, await_needs, read_rhs}
use Rattle.expr_needs.specs.declared.expected.Expected.{Expected}
use Rattle.expr_needs.specs.ExprTable.{read_call, read_expr}
use Rattle.expr_needs.specs.Needs.{WaitsForAny}
use Rattle.check_laws.specs.Laws.{IsOneMore, IsReady, KeepsPositions, KeptPositions}
use Rattle.typed_needs.specs.TypedRuns.{AllRunsAreTyped, NamesOfAction, RunIsTyped, RunsAreTyped, IsReadyToAct}
use Rattle.typed_needs.specs.WholeRuns.{RunsGoOn}
use Rattle.typed_exprs.specs.Actions.{ActClaim, AllActionsAreTyped}
use Rattle.typed_exprs.specs.Calls.{AllCallsAreTyped}
use Rattle.typed_exprs.specs.Conditions.{AllConditionsAreTyped}
use Rattle.typed_exprs.specs.Constructors.{AllConstructorsAreTyped}
use Rattle.typed_exprs.specs.Elements.{AllElementsAreTyped}
use Rattle.typed_exprs.specs.Lines.{Leaves, TheseLinesAreTyped}
use Rattle.typed_exprs.specs.Prefixes.{AllPrefixesAreTyped}
use Rattle.typed_exprs.proofs.Steps.{more-path}
use Rattle.typed_functions.specs.Functions.{AllFunctionsAreTyped}
use Rattle.typed_trees.proofs.Leaving.{action-leaves, expr-leaves}
use Rattle.typed_trees.proofs.Trees.{AllLines, CallClaim, call-typed, expr-typed, postfix-typed, primary-typed}

neither : {A : Type 0} → ⊥ ⊎ ⊥ → A
neither (inl h) = absurd h
neither (inr h) = absurd h

-- a type of the booleans
pub truth : SemType
truth = Or' (record { ptr = null_ptr; alloc = record { memory = _ }; value = tt }) (Basic (BoolOne true)) (record { ptr = null_ptr; alloc = record { memory = _ }; value = tt }) (Basic (BoolOne false))

pub booleans : (env : List AtomDef) → HasExactly env truth IsBoolean
unfolding truth
booleans env (BoolShape true) valid = ((λ i. (true, refl)), (λ i. inl refl))
booleans env (BoolShape false) valid = ((λ i. (false, refl)), (λ i. inr refl))
booleans env Nil valid = ((λ h. neither h), (λ (b, e). absurd (let bad : ⊥ = cc in bad)))
booleans env (Int i) valid = ((λ h. neither h), (λ (b, e). absurd (let bad : ⊥ = cc in bad)))
booleans env (Str t) valid = ((λ h. neither h), (λ (b, e). absurd (let bad : ⊥ = cc in bad)))
booleans env (List' mark _ items) valid = ((λ h. neither h), (λ (b, e). absurd (let bad : ⊥ = cc in bad)))
booleans env (Mapping' mark _ fields) valid = ((λ h. neither h), (λ (b, e). absurd (let bad : ⊥ = cc in bad)))
booleans env (Error' _ detail) valid = ((λ h. neither h), (λ (b, e). absurd (let bad : ⊥ = cc in bad)))
booleans env (Function isolated graph) valid = ((λ h. neither h), (λ (b, e). absurd (let bad : ⊥ = cc in bad)))
booleans env (Future' _ results) valid = ((λ h. neither h), (λ (b, e). absurd (let bad : ⊥ = cc in bad)))

module _ (passes : List AtomDef → Asked → TypeLimit → Type 0) (names : Names) (env : List AtomDef) (l : AllLines passes names env) where
  -- a name at least is waited for
  any-of : (qs : List QualifiedName) (at : Place) → 1 ≤ length qs → ActClaim passes names env (λ s. ⊤) (λ e. in_turn await_needs qs & one (WaitsForAny qs at))
  any-of (q ∷ more) at there = l.actions.any q more at
  any-of [] at there = absurd (omega (arith, there))

  action-typed : (a : Action) → ActClaim passes names env (NamesOfAction a) (action_needs a)
  action-typed (Prefix' op _ a at) = l.actions.behind op a (action_needs a) at (action-leaves passes names env l.positions l.goes a) (action-typed a)
  action-typed (Start call at) = λ e place old new ready peers results run kept far named.
      let c : CallClaim passes names env l (read_call call) = call-typed passes names env l call in c.started (read_call call).at at e place old new ready run kept far named
  action-typed (WaitAny qs at) = λ e place old new ready peers results run kept far named. any-of qs.items at peers e place old new ready tt results run kept far named
  action-typed (WaitAll ms at) = λ e place old new ready peers results run kept far named. l.actions.all ms.items at e place old new ready tt results run kept far named
  action-typed (Flush peer at) = l.actions.flushes peer at
  action-typed (Receive peer at) = l.actions.receives peer at
  action-typed (Send value peer at) = l.actions.sends (read_expr value.value) peer at (record { claim = expr-typed passes names env l value.value; leaves = expr-leaves passes names env l.positions l.goes value.value })
  action-typed (SyncSend value peer at) = l.actions.waiting (read_expr value.value) peer at (record { claim = expr-typed passes names env l value.value; leaves = expr-leaves passes names env l.positions l.goes value.value })

  rhs-typed : (x : Rhs) (e : Expected) → RunIsTyped passes names env (IsReadyToAct passes names env x e) ((read_rhs x).needs e)
  rhs-typed (ExprRhs x) e place old new h run kept far named = expr-typed passes names env l x.value e place old new h.ready run kept far named
  rhs-typed (ActionRhs a) e place old new h run kept far named = action-typed a.value e place old new h.ready h.peers h.results run kept far named

  pub runs-typed : RunsAreTyped passes names env
  runs-typed =
      record {
        expr = λ x e place old new ready run kept far named. expr-typed passes names env l x e place old new ready run kept far named;
        postfix = λ x e place old new ready run kept far named. postfix-typed passes names env l x e place old new ready run kept far named;
        primary = λ x e place old new ready run kept far named. primary-typed passes names env l x e place old new ready run kept far named;
        call = λ x e place old new ready run kept far named.
            let c : CallClaim passes names env l (read_call x) = call-typed passes names env l x in c.made e place old new ready run kept far named;
        rhs = rhs-typed;
      }

pub all-runs-are-typed : (passes : List AtomDef → Asked → TypeLimit → Type 0) → KeptPositions passes → RunsGoOn passes → TheseLinesAreTyped passes → AllPrefixesAreTyped passes
    → AllElementsAreTyped passes → AllConditionsAreTyped passes → AllConstructorsAreTyped passes → AllCallsAreTyped passes → AllActionsAreTyped passes
    → AllFunctionsAreTyped passes → AllRunsAreTyped passes
all-runs-are-typed passes positions goes lines prefixes elements conditions constructors calls actions functions names env =
    runs-typed passes names env
    (record {
      positions = positions names;
      goes = goes names;
      truth = truth;
      lines = lines names env truth (booleans env);
      prefixes = prefixes names env truth (booleans env);
      elements = elements;
      conditions = conditions names env;
      constructors = constructors names env;
      calls = calls names env;
      actions = actions names env truth (booleans env);
      functions = functions names env;
    })
