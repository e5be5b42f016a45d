-- Functions and workers that end, as answers of calls, and that what stands still stands.
use Rattle.std.proofs.Common.{◌≡◌, ◌++◌, ◌∙◌, Bool, true, false, List, [], ◌∷◌, length, All, Option, Some, None, Result, Ok, Err, ap, refl, subst, sym}
use Rattle.std.proofs.lemmas.List.Elements.{All-nil}
use Rattle.bal_base.specs.declared.fault.Fault.{Fault}
use Rattle.bal_base.specs.declared.fault.FaultCode.{FaultCode}
use Rattle.bal_base.specs.declared.fault.FaultCode.TheVariants.{MissingReturn}
use Rattle.bal_base.specs.declared.fault.Kept.TheVariants.{Nothing}
use Rattle.bal_base.specs.declared.place.Place.{Place}
use Rattle.bal_base.specs.declared.stop.Stop.{Stop}
use Rattle.bal_base.specs.declared.stop.Stop.TheVariants.{Fault as OwnFault}
use Rattle.bal_tree.specs.declared.def.FunctionDef.{FunctionDef}
use Rattle.bal_tree.specs.declared.def.Worker.{Worker}
use Rattle.checks.specs.Checks.{Comes}
use Rattle.checks.specs.Questions.{IsFault, is_below}
use Rattle.checks.proofs.Steps.{stops}
use Rattle.flow_narrowing.specs.Flows.{IfShared}
use Rattle.type_model.specs.Defined.{TyBelow}
use Rattle.type_model.specs.declared.answers.TypeLimit.{TypeLimit}
use Rattle.type_model.specs.declared.atoms.AtomDef.{AtomDef}
use Rattle.type_model.specs.declared.basic.SemType.{SemType}
use Rattle.type_model.specs.declared.basic.Ty.{Ty}
use Rattle.type_model.specs.Calls.{Asked}
use Rattle.typed_tree.specs.declared.expr.TypedExpr.{TypedExpr}
use Rattle.std.specs.Global.{Vec}
use Rattle.typed_tree.specs.declared.stmt.TypedStmt.{TypedStmt}
use Rattle.typed_tree.specs.declared.unit.TypedBody.{TypedBody}
use Rattle.typed_tree.specs.declared.unit.TypedBody.TheVariants as typed
use Rattle.typed_tree.specs.declared.unit.TypedFunction.{TypedFunction}
use Rattle.typed_tree.specs.declared.unit.TypedWorker.{TypedWorker}
use Rattle.typed_tree.specs.SharedTypes.{Shared, sem_of}
use Rattle.expr_needs.specs.declared.kind.Kind.TheVariants as kind
use Rattle.check_words.specs.Calls.{closes_unit}
use Rattle.check_words.specs.Stands.{SharedBelow, SiteBelow, Stands}
use Rattle.check_words.specs.State.{BlockAtWork, Site, State, UnitAtWork, all_but}
use Rattle.check_words.specs.Statements.{closes_block, takes_part}
use Rattle.check_words.specs.Units.{IsFunctionOf, IsValueBody, adds_function, ends_by, ends_function, ends_value_function, ends_worker, outside_functions}
use Rattle.check_words.specs.Words.{Atoms, OfKind, asking, done, fails, some_over, unless}
use Rattle.check_words.proofs.Coming.{became-this, failed, given, next}
use Rattle.check_words.proofs.Standing.{others-have, stands-wants}
use Rattle.check_kinds.specs.Over.{ComesOver}
use Rattle.check_kinds.proofs.Over.{over-asks, over-on, over-some, over-stops}
use Rattle.needs_of_units.specs.Parts.{IsBlockOf, adds_block_function, adds_worker, keeps_function}

-- nothing is asked, and it is refused
pub over-done : (env : Atoms) → ComesOver done env (Ok tt) env
unfolding ComesOver
over-done env s e = subst (λ (o : Atoms). Comes done s (Ok tt) (record s { atoms = o })) e (given _ s tt refl)

over-fails : (code : FaultCode) (at : Place) (env : Atoms) (f : Fault) → IsFault code (Some at) Nothing f → ComesOver {A = Unit {0}} (fails code at) env (Err (OwnFault f)) env
unfolding ComesOver
over-fails code at env f is s e = subst (λ (o : Atoms). Comes {A = Unit {0}} (fails code at) s (Err (OwnFault f)) (record s { atoms = o })) e (failed _ code at s f is)

module _ (s : State) (f : TypedFunction) (fs : List TypedFunction) (more : fs ≡ s.done.functions ++ f ∷ []) (site : Site) (out : site ≡ outside_functions s.site) (ws : List TypedWorker) (none : ws ≡ []) where
  abbrev pub with_function : State
  with_function = record s { done = record s.done { functions = fs; workers = ws }; site = site }

  kept-comes : Comes (keeps_function f) s (Ok tt) with_function
  kept-comes = let mid : State = record s { done = record s.done { functions = fs; workers = ws } } in
      next _ _ _ _ _ tt mid
      (became-this _ s mid (ap (λ gs. record s { done = record s.done { functions = gs; workers = ws } }) more ∙ ap (λ xs. record s { done = record s.done { functions = s.done.functions ++ f ∷ []; workers = xs } }) none))
      (became-this _ mid with_function (ap (λ x. record mid { site = x }) out))

  -- the function is one of which this holds
  pub function-comes : (d : FunctionDef) (u : UnitAtWork) (P : TypedBody → Type 0) → IsFunctionOf d s.site.scope u f → P f.body → Comes (adds_function d u P) s (Ok tt) with_function
  function-comes d u P is p = next _ _ _ _ _ s.site s (given _ s s.site refl) (next _ _ _ _ _ f s (given _ s f (is, p)) kept-comes)

  pub function-stands : Stands s → Stands with_function
  function-stands h =
      record {
        site = subst (SiteBelow (length s.atoms)) (sym out) (All-nil _);
        found = h.found;
        ways = h.ways;
        wants = h.wants;
        constructors = h.constructors;
        calls = h.calls;
        choices = h.choices;
        matches = h.matches;
        units = h.units;
        initialiser = h.initialiser;
      }

module _ (d : FunctionDef) (u : UnitAtWork) (f : TypedFunction) (fs : List TypedFunction) (site : Site) (s : State) (more : fs ≡ s.done.functions ++ f ∷ [])
    (out : site ≡ outside_functions s.site) (xs : List TypedWorker) (none : xs ≡ []) (is : IsFunctionOf d s.site.scope u f) where
  -- `=> e;`
  pub value-function-ends : (s0 s1 : State) (value : TypedExpr) (ws : List (Option Shared)) → Comes takes_part s0 (Ok value) s1 → ws ≡ all_but 1 s1.wants
      → Comes closes_unit (record s1 { wants = ws }) (Ok u) s → IsValueBody value f.body → Comes (ends_value_function d) s0 (Ok tt) (with_function s f fs more site out xs none)
  value-function-ends s0 s1 value ws taken less closed body =
      next _ _ _ _ _ value s1 taken
      (next _ _ _ _ _ tt (record s1 { wants = ws }) (became-this _ s1 _ (ap (λ xs. record s1 { wants = xs }) less))
      (next _ _ _ _ _ u s closed (function-comes s f fs more site out xs none d u (IsValueBody value) is body)))

  -- `{ .. }`
  pub block-function-added : (close : Place) (s0 s1 : State) (rest initial : BlockAtWork) → Comes closes_block s0 (Ok rest) s1 → Comes closes_block s1 (Ok initial) s
      → (i r : Vec TypedStmt) (w : Vec TypedWorker) → f.body ≡ typed.Block i w r u.flow.reached close → i.items ≡ initial.stmts → w.items ≡ s.done.workers → r.items ≡ rest.stmts
      → Comes (adds_block_function d u close) s0 (Ok tt) (with_function s f fs more site out xs none)
  block-function-added close s0 s1 rest initial first second i r w body e f2 g =
      next _ _ _ _ _ rest s1 first
      (next _ _ _ _ _ initial s second
      (next _ _ _ _ _ s.done.workers s (given _ s s.done.workers refl)
      (function-comes s f fs more site out xs none d u (IsBlockOf s.done.workers u.flow.reached close initial.stmts rest.stmts) is (i, r, w, body, e, f2, g))))

-- what a unit ends with is done in turn
module _ (passes : List AtomDef → Asked → TypeLimit → Type 0) (close : Place) (s0 s1 : State) (u : UnitAtWork) (closed : Comes closes_unit s0 (Ok u) s1) where
  pub function-ends : (d : FunctionDef) (s2 new : State) (r : Result (Unit {0}) (Stop Fault)) → Comes (ends_by passes u.flow.reached u close) s1 (Ok tt) s2
      → Comes (adds_block_function d u close) s2 r new → Comes (ends_function passes d close) s0 r new
  function-ends d s2 new r ended added = next _ _ _ _ _ u s1 closed (next _ _ _ _ _ tt s2 ended added)

  pub function-stops : (d : FunctionDef) (s2 : State) (stop : Stop Fault) → Comes (ends_by passes u.flow.reached u close) s1 (Err stop) s2
      → Comes (ends_function passes d close) s0 (Err stop) s2
  function-stops d s2 stop ended = next _ _ _ _ _ u s1 closed (stops _ _ s1 s2 stop ended)

  pub worker-ends : (w : Worker) (s2 new : State) (r : Result (Unit {0}) (Stop Fault)) → Comes (ends_by passes u.flow.reached u close) s1 (Ok tt) s2
      → Comes (adds_worker w u close) s2 r new → Comes (ends_worker passes w close) s0 r new
  worker-ends w s2 new r ended added = next _ _ _ _ _ u s1 closed (next _ _ _ _ _ tt s2 ended added)

  pub worker-stops : (w : Worker) (s2 : State) (stop : Stop Fault) → Comes (ends_by passes u.flow.reached u close) s1 (Err stop) s2
      → Comes (ends_worker passes w close) s0 (Err stop) s2
  worker-stops w s2 stop ended = next _ _ _ _ _ u s1 closed (stops _ _ s1 s2 stop ended)

-- nil as the end of a unit
module _ (passes : List AtomDef → Asked → TypeLimit → Type 0) (u : UnitAtWork) (close : Place) (old new : Atoms) (nil : Ty) (is : OfKind kind.Nothing old nil) (t : SemType)
    (same : t ≡ sem_of u.result) where
  abbrev AsksNil : Result Bool (Stop Fault) → Type 0
  AsksNil r = Comes (is_below passes nil.sem t (Some close)) old r new

  nil-asked : (r : Result Bool (Stop Fault)) → AsksNil r → ComesOver (asking (is_below passes nil.sem (sem_of u.result) (Some close))) old r new
  nil-asked r h = over-asks _ old new r (subst (λ x. Comes (is_below passes nil.sem x (Some close)) old r new) same h)

  pub nil-stops : (stop : Stop Fault) → AsksNil (Err stop) → ComesOver (ends_by passes true u close) old (Err stop) new
  nil-stops stop h =
      over-on (some_over (OfKind kind.Nothing)) _ old old new nil (Err stop) (over-some (OfKind kind.Nothing) old nil is)
      (over-stops (asking (is_below passes nil.sem (sem_of u.result) (Some close))) _ old new stop (nil-asked (Err stop) h))

  nil-answers : (b : Bool) (r : Result (Unit {0}) (Stop Fault)) → AsksNil (Ok b) → ComesOver (unless b MissingReturn close) new r new
      → ComesOver (ends_by passes true u close) old r new
  nil-answers b r h k =
      over-on (some_over (OfKind kind.Nothing)) _ old old new nil r (over-some (OfKind kind.Nothing) old nil is)
      (over-on (asking (is_below passes nil.sem (sem_of u.result) (Some close))) _ old new new b r (nil-asked (Ok b) h) k)

  pub nil-fits : (b : Bool) → b ≡ true → AsksNil (Ok b) → ComesOver (ends_by passes true u close) old (Ok tt) new
  nil-fits b e h = nil-answers b (Ok tt) h (subst (λ x. ComesOver (unless x MissingReturn close) new (Ok tt) new) (sym e) (over-done new))

  pub nil-misses : (b : Bool) → b ≡ false → (f : Fault) → IsFault MissingReturn (Some close) Nothing f → AsksNil (Ok b)
      → ComesOver (ends_by passes true u close) old (Err (OwnFault f)) new
  nil-misses b e f fault h =
      nil-answers b (Err (OwnFault f)) h (subst (λ x. ComesOver (unless x MissingReturn close) new (Err (OwnFault f)) new) (sym e) (over-fails MissingReturn close new f fault))

-- what is wanted last is dropped
pub less-wanted : (s : State) → Stands s → (ws : List (Option Shared)) → ws ≡ all_but 1 s.wants → Stands (record s { wants = ws })
less-wanted s h ws less =
    stands-wants s h ws (subst (All (IfShared (TyBelow (length s.atoms)))) (sym less) (others-have (IfShared (TyBelow (length s.atoms))) 1 s.wants h.wants))
