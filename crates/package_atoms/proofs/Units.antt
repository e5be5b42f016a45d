-- The needs of workers, functions, variables of modules and packages keep what was found.
use Rattle.std.proofs.Common.{◌≡◌, ◌∙◌, ◌≤◌, ℕ, Bool, true, false, List, [], ◌∷◌, All, IfSome, Option, None, Some, Result, Ok, Err, arith, inl, inr, length, refl, subst, sym, ap}
use Rattle.std.specs.Global.{Box}
use Rattle.std.proofs.lemmas.List.Elements.{All-nil}
use Rattle.bal_base.specs.declared.fault.Fault.{Fault}
use Rattle.bal_base.specs.declared.place.Place.{Place}
use Rattle.bal_tree.specs.declared.def.ConstDef.{ConstDef}
use Rattle.bal_tree.specs.declared.def.FunctionDef.{FunctionDef}
use Rattle.bal_tree.specs.declared.def.VariableDef.{VariableDef}
use Rattle.bal_tree.specs.declared.def.Worker.{Worker}
use Rattle.bal_tree.specs.declared.name.Word.{Word}
use Rattle.bal_tree.specs.declared.types.TypeTree.{TypeTree}
use Rattle.checks.specs.Checks.{Gives, Refuses, gives_some, ◌▷◌}
use Rattle.descriptors.specs.declared.names.Names.{Names}
use Rattle.descriptors.specs.Descriptors.{descriptor_of}
use Rattle.needs.specs.Needs.{asks}
use Rattle.type_model.specs.declared.answers.TypeLimit.{TypeLimit}
use Rattle.type_model.specs.declared.atoms.AtomDef.{AtomDef}
use Rattle.type_model.specs.Calls.{Asked}
use Rattle.type_model.specs.Defined.{TyBelow}
use Rattle.typed_tree.specs.declared.expr.TypedExpr.{TypedExpr}
use Rattle.typed_tree.specs.declared.unit.TypedBody.{TypedBody}
use Rattle.typed_tree.specs.SharedTypes.{Shared}
use Rattle.flow_narrowing.specs.Flows.{IfShared}
use Rattle.check_words.specs.Stands.{FlowBelow}
use Rattle.check_words.specs.State.{InitialiserAtWork, State, UnitAtWork}
use Rattle.check_words.specs.Statements.{takes_part}
use Rattle.check_words.specs.Units.{adds_function, begins_function, begins_initial, begins_worker, constant_fits, descriptor_type, ends_by, ends_function, ends_initial, ends_module, ends_value, ends_value_function, ends_worker, enters_file, initialiser_now, initialiser_or_new, is_worker_new, keeps_at_work, keeps_initialiser, names_parameter, result_or_fault, sets_initialiser, signature_of, variable_type, worker_results}
use Rattle.check_words.proofs.Standing.{also-has, last-has, others-have}
use Rattle.isolation_check.proofs.Held.{ExprHeld, FunctionHeld, InitialHeld, InitialiserHeld, WorkerHeld}
use Rattle.package_atoms.proofs.HeldStmts.{BodyHeld, block-body, initial-held, initialiser-held, value-body, whole-held, worker-held}
use Rattle.package_atoms.proofs.Actions.{result-known}
use Rattle.package_atoms.proofs.Calls.{new-kept}
use Rattle.package_atoms.proofs.Functions.{captured-held, number-taken, unit-closed, unit-opened}
use Rattle.package_atoms.proofs.Keeping.{Any, Core, Keeps, asked, becoming, behind, chosen, chosen-as, core, elsewhere, forgetting, given, knowing, one-of, refused, tested}
use Rattle.package_atoms.proofs.Questions.{below-grows, is-below-grows, whole-grows}
use Rattle.package_atoms.proofs.Statements.{block-closed, part-taken}
use Rattle.package_atoms.proofs.Words.{AtWorkHeld, CapturedHeld, Held, Standing, Stays, UnitHeld, VariableHeld, flow-changed, no-more, wanting, standing-held}

-- ---- of no account

module _ (I : Core → Type 0) (so : Type 0) where
  pub file-entered : (m file : ℕ) → Keeps I so (enters_file m file) Any I
  file-entered m file = elsewhere _ _ _ (λ old. refl) (λ old. refl)

  signature-seen : (names : Names) (d : FunctionDef) → Keeps I so (signature_of names d) Any I
  signature-seen names d = behind (chosen _ _ _) (λ site. chosen _ _ _)

  variable-seen : (names : Names) (d : VariableDef) → Keeps I so (variable_type names d) Any I
  variable-seen names d = behind (chosen _ _ _) (λ site. chosen _ _ _)

  worker-new : (w : Worker) (number : ℕ) → Keeps I so (is_worker_new w number) Any I
  worker-new w number = behind (chosen _ _ _) (λ site. behind (chosen _ _ _) (λ u. one-of _ (refused _ _ _ _ _) (chosen _ _ _)))

  described-as : (names : Names) (tree : Option (Box TypeTree)) → Keeps I so (descriptor_type names tree) Any I
  described-as names None = chosen _ _ _
  described-as names (Some tree) =
      behind (chosen _ _ _) (λ site. behind (asked _ _ _ (whole-grows names site.scope (descriptor_of tree.value))) (λ t. chosen _ _ _))

  -- where a descriptor has a fault, atoms may have come before it
  refused-as : (names : Names) (tree : Option (Box TypeTree)) (old new : State) (f : Fault) → descriptor_type names tree old (Refuses f) new
      → (length old.atoms ≤ length new.atoms) × (core new ≡ core old)
  unfolding ◌▷◌ gives_some asks
  refused-as names None old new f x = absurd x
  refused-as names (Some tree) old new f (inl x) = absurd x
  refused-as names (Some tree) old new f (inr (site, mid, (p, e), inl (x, is))) =
      let grows = whole-grows names site.scope (descriptor_of tree.value) mid.atoms new.atoms (Refuses f) x in
      (omega (arith, ap (λ (s : State). length s.atoms) e, grows), ap core is ∙ ap core e)
  refused-as names (Some tree) old new f (inr (site, mid, (p, e), inr (t, mid2, x, y))) = absurd y

  result-run : (names : Names) (tree : Option (Box TypeTree)) (old new : State) (r : Result Shared Fault) → result_or_fault (descriptor_type names tree) old (Gives r) new
      → (length old.atoms ≤ length new.atoms) × (so → I (core old) → I (core new) × Unit {0})
  unfolding result_or_fault
  result-run names tree old new (Ok t) x = (described-as names tree).run old new t x
  result-run names tree old new (Err f) x =
      let p = refused-as names tree old new f x in (p.0, λ c i. (subst I (sym p.1) i, tt))

  result-or-fault : (names : Names) (tree : Option (Box TypeTree)) → Keeps I so (result_or_fault (descriptor_type names tree)) Any I
  result-or-fault names tree = record { run = result-run names tree }

  results-seen : (names : Names) (ws : List Worker) → Keeps I so (worker_results names ws) Any I
  results-seen names [] = chosen _ _ _
  results-seen names (w ∷ ws) = behind (result-or-fault names w.result) (λ r. behind (results-seen names ws) (λ more. chosen _ _ _))

  ended-by : (passes : List AtomDef → Asked → TypeLimit → Type 0) (reached : Bool) (u : UnitAtWork) (close : Place) → Keeps I so (ends_by passes reached u close) Any I
  ended-by passes false u close = chosen _ _ _
  ended-by passes true u close = behind (chosen _ _ _) (λ nil. behind (asked _ _ _ (is-below-grows _ _ _ _)) (λ b. tested _ _ _ _ b))

  pub constant-kept : (passes : List AtomDef → Asked → TypeLimit → Type 0) (names : Names) (tree : Option (Box TypeTree)) (d : ConstDef) → Keeps I so (constant_fits passes names tree d) Any I
  constant-kept passes names None d = chosen _ _ _
  constant-kept passes names (Some tree) d = behind (described-as names (Some tree)) (λ t. behind (chosen _ _ _) (λ v. asked _ _ _ (below-grows _ _ _ _)))

-- ---- what is kept

-- what holds, and beside it the types that are wanted
abbrev Wanting : ℕ → Core → Type 0
Wanting n k = Held n k × All (IfShared (TyBelow n)) k.wants

standing-wanting : (n : ℕ) (k : Core) → Standing n k → Wanting n k
standing-wanting n k h = (h.0, h.1.wants)

wanting-held : (n : ℕ) (k : Core) → Wanting n k → Held n k
wanting-held n k h = h.0

module _ (n : ℕ) where
  -- ---- functions and workers

  pub function-begun : (so : Type 0) (names : Names) (d : FunctionDef) → Stays n so (begins_function names d)
  function-begun so names d =
      behind (signature-seen _ _ names d) (λ f. behind (chosen _ _ _) (λ result. behind (chosen _ _ _) (λ slots. behind (results-seen _ _ names _) (λ results.
      behind (elsewhere _ _ _ (λ old. refl) (λ old. refl)) (λ u. unit-opened n _ _ (λ c. All-nil (CapturedHeld n)))))))

  pub parameter-named : (so : Type 0) (w : Word) (assigned : Bool) → Stays n so (names_parameter w assigned)
  parameter-named so w assigned = behind (new-kept _ _ w) (λ u. behind (chosen _ _ _) (λ unit. behind (chosen _ _ _) (λ t. flow-changed n _ _)))

  function-added : (so : Type 0) (P : TypedBody → Type 0) (d : FunctionDef) (u : UnitAtWork) → ((b : TypedBody) → P b → so → BodyHeld n b)
      → Stays n so (adds_function d u P)
  unfolding Held
  function-added so P d u g =
      behind (chosen _ _ _) (λ site. knowing (chosen-as (Held n) _ _ (FunctionHeld n) (λ old f p c h. whole-held n f (g f.body p.1 c))) (λ f.
      behind
      (becoming (Held n) _ (Held n) _ (λ old. refl) (λ old c h. (
        h.0,
        h.1,
        h.2,
        h.3,
        h.4,
        (also-has (FunctionHeld n) old.done.functions f h.5.0 c.1, All-nil (WorkerHeld n), h.5.2, h.5.3),
      )))
      (λ v. elsewhere _ _ _ (λ old. refl) (λ old. refl))))

  pub function-ended : (so : Type 0) (passes : List AtomDef → Asked → TypeLimit → Type 0) (d : FunctionDef) (close : Place) → Stays n so (ends_function passes d close)
  unfolding Held
  function-ended so passes d close =
      behind (unit-closed n _) (λ u. behind (ended-by _ _ passes _ u close) (λ v. knowing (block-closed n _) (λ rest. knowing (block-closed n _) (λ initial.
      knowing (chosen-as (Held n) _ _ (All (WorkerHeld n)) (λ old ws e c h. subst (All (WorkerHeld n)) (sym e) h.5.1)) (λ ws.
      function-added _ _ d u (λ b p c. block-body n passes ws _ close initial.stmts rest.stmts b p c.0.1 c.1 c.0.0.1))))))

  pub value-function-ended : (so : Type 0) (d : FunctionDef) → Stays n so (ends_value_function d)
  value-function-ended so d =
      knowing (part-taken n _) (λ value. behind (no-more n _ 1) (λ u. behind (unit-closed n _) (λ unit.
      function-added _ _ d unit (λ b p c. value-body n value b p c.1))))

  -- what a worker captures has types that name atoms that are there
  pub worker-begun : (so : Type 0) (w : Worker) (number : ℕ) (uses : List Word) → Keeps (Standing n) so (begins_worker w number uses) Any (Held n)
  worker-begun so w number uses =
      behind (worker-new _ _ w number) (λ u. behind (result-known _ _ number) (λ result. knowing
      (chosen-as (Standing n) _ _ (λ v. FlowBelow n v.flow) (λ old v l c h. last-has (λ v. FlowBelow n v.flow) old.units v l h.1.flows)) (λ around.
      forgetting (Standing n) (standing-held n) (behind (number-taken n _) (λ k. unit-opened n _ _ (λ c. captured-held n around.flow.variables uses c.1))))))

  pub worker-ended : (so : Type 0) (passes : List AtomDef → Asked → TypeLimit → Type 0) (w : Worker) (close : Place) → Stays n so (ends_worker passes w close)
  unfolding Held
  worker-ended so passes w close =
      behind (unit-closed n _) (λ u. behind (ended-by _ _ passes _ u close) (λ v. knowing (block-closed n _) (λ b.
      knowing (chosen-as (Held n) _ _ (WorkerHeld n) (λ old t p c h. worker-held n t b.stmts p.1 c.1)) (λ t.
      becoming (Held n) _ (Held n) _ (λ old. refl) (λ old c h. (h.0, h.1, h.2, h.3, h.4, (h.5.0, also-has (WorkerHeld n) old.done.workers t h.5.1 c.1, h.5.2, h.5.3)))))))

  -- ---- initial values

  initialiser-or : (so : Type 0) (i : Option InitialiserAtWork) → (so → IfSome i (AtWorkHeld n)) → Keeps (Held n) so (initialiser_or_new i) (AtWorkHeld n) (Held n)
  initialiser-or so (Some i) f = given _ _ i (AtWorkHeld n) f
  initialiser-or so None f =
      behind (number-taken n _) (λ k. behind (chosen _ _ _) (λ t. given _ _ _ (AtWorkHeld n) (λ c. (All-nil (CapturedHeld n), All-nil (InitialHeld n)))))

  initialiser-seen : (so : Type 0) → Keeps (Held n) so initialiser_now (AtWorkHeld n) (Held n)
  unfolding Held
  initialiser-seen so =
      knowing (chosen-as (Held n) _ _ (λ i. IfSome i (AtWorkHeld n)) (λ old i e c h. subst (λ (j : Option InitialiserAtWork). IfSome j (AtWorkHeld n)) (sym e) h.4))
      (λ i. initialiser-or _ i (λ c. c.1))

  initialiser-set : (so : Type 0) (i : Option InitialiserAtWork) → (so → IfSome i (AtWorkHeld n)) → Stays n so (sets_initialiser i)
  unfolding Held
  initialiser-set so i f = becoming (Held n) _ (Held n) _ (λ old. refl) (λ old c h. (h.0, h.1, h.2, h.3, f c, h.5))

  kept-at-work : (so : Type 0) (kept : Bool) (i : InitialiserAtWork) → (so → AtWorkHeld n i) → Stays n so (keeps_at_work kept i)
  kept-at-work so true i f = initialiser-set _ (Some i) f
  kept-at-work so false i f = chosen _ _ _

  pub initial-begun : (so : Type 0) (names : Names) (d : VariableDef) (kept : Bool) → Stays n so (begins_initial names d kept)
  initial-begun so names d kept =
      knowing (initialiser-seen _) (λ i. behind (kept-at-work _ kept i (λ c. c.1)) (λ u. behind (unit-opened n _ i.unit (λ c. c.1.0)) (λ v.
      behind (variable-seen _ _ names d) (λ t. behind (chosen _ _ _) (λ w. wanting n _ (Some w))))))

  value-ended : (so : Type 0) (kept : Bool) (unit : UnitAtWork) (number : ℕ) (value : TypedExpr) (at : Place) → (so → UnitHeld n unit) → (so → ExprHeld n value)
      → Stays n so (ends_value kept unit number value at)
  unfolding Held
  value-ended so true unit number value at f g =
      knowing (initialiser-seen _) (λ i. knowing (chosen-as (Held n) _ _ (InitialHeld n) (λ old x p c h. initial-held n number value at x p (g c.0))) (λ x.
      initialiser-set _ _ (λ c. (f c.0.0, also-has (InitialHeld n) i.values x c.0.1.1 c.1))))
  value-ended so false unit number value at f g = becoming (Held n) _ (Held n) _ (λ old. refl) (λ old c h. h)

  part-kept : (so : Type 0) → Keeps (Wanting n) so takes_part (ExprHeld n) (Wanting n)
  unfolding Held
  part-kept so =
      knowing (chosen-as (Wanting n) _ _ (ExprHeld n) (λ old e l c h. last-has (ExprHeld n) old.found e l h.0.0)) (λ e.
      behind
      (behind (chosen _ _ _) (λ parts. behind
      (becoming (Wanting n) _ (Wanting n) _ (λ old. refl) (λ old c h. ((others-have (ExprHeld n) 1 old.found h.0.0, h.0.1, h.0.2, h.0.3, h.0.4, h.0.5), h.1)))
      (λ u. chosen _ _ _)))
      (λ parts. given _ _ e (ExprHeld n) (λ c. c.1)))

  pub initial-ended : (so : Type 0) (names : Names) (d : VariableDef) (kept : Bool) → Keeps (Standing n) so (ends_initial names d kept) Any (Held n)
  unfolding Held
  initial-ended so names d kept =
      forgetting (Standing n) (standing-wanting n) (knowing (part-kept _) (λ value.
      knowing (chosen-as (Wanting n) _ _ (λ t. TyBelow n t.value) (λ old t l c h. last-has (IfShared (TyBelow n)) old.wants (Some t) l h.1)) (λ t.
      forgetting (Wanting n) (wanting-held n) (behind (no-more n _ 1) (λ u. knowing (unit-closed n _) (λ unit. behind (chosen _ _ _) (λ site. behind (variable-seen _ _ names d) (λ number.
      knowing (chosen-as (Held n) _ _ (VariableHeld n) (λ old v p c h. subst (λ (x : Shared). TyBelow n x.value) (sym p.ty) c.0.1)) (λ v.
      behind
      (becoming (Held n) _ (Held n) _ (λ old. refl) (λ old c h. (h.0, h.1, h.2, h.3, h.4, (h.5.0, h.5.1, also-has (VariableHeld n) old.done.variables v h.5.2 c.1, h.5.3))))
      (λ w. value-ended _ kept unit number.0 value _ (λ c. c.0.1) (λ c. c.0.0.0.1)))))))))))

  -- ---- modules

  initialiser-kept : (so : Type 0) (m : ℕ) (i : Option InitialiserAtWork) → (so → IfSome i (AtWorkHeld n)) → Stays n so (keeps_initialiser m i)
  unfolding Held
  initialiser-kept so m None f = chosen _ _ _
  initialiser-kept so m (Some i) f =
      knowing (chosen-as (Held n) _ _ (InitialiserHeld n) (λ old x p c h. initialiser-held n x i.values p.2 (f c).1)) (λ x.
      becoming (Held n) _ (Held n) _ (λ old. refl) (λ old c h. (h.0, h.1, h.2, h.3, h.4, (h.5.0, h.5.1, h.5.2, also-has (InitialiserHeld n) old.done.initialisers x h.5.3 c.1))))

  pub module-ended : (so : Type 0) (m : ℕ) → Stays n so (ends_module m)
  unfolding Held
  module-ended so m =
      knowing (chosen-as (Held n) _ _ (λ i. IfSome i (AtWorkHeld n)) (λ old i e c h. subst (λ (j : Option InitialiserAtWork). IfSome j (AtWorkHeld n)) (sym e) h.4)) (λ i.
      behind (initialiser-kept _ m i (λ c. c.1)) (λ u. initialiser-set _ None (λ c. tt)))
