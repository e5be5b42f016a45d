-- Ways through bodies, put together of ways through their statements and values.
use Rattle.std.proofs.Common.{All, Bool, List, None, Some, [], false, refl, subst, sym, true, ℕ, ◌∷◌, ◌≡◌}
use Rattle.std.proofs.lemmas.List.Elements.{All-head, All-tail}
use Rattle.std.specs.Prelude.{IsSomeAnd, slice_get}
use Rattle.bal_base.specs.declared.shape.Shape.{Nil as NilShape, Shape}
use Rattle.eval_model.specs.Expressions.{nil_type}
use Rattle.eval_model.specs.TaskWalk.{TasksOver}
use Rattle.eval_model.specs.Tasks.{Task, execs}
use Rattle.eval_model.specs.Trees.{at_end, body_tasks, initialises, starts_named}
use Rattle.eval_model.specs.Walk.{BlockOver}
use Rattle.operations.specs.Rows.{AreBelow, IsWithin, ResultHas, Surroundings}
use Rattle.operations.specs.declared.operation.Constant.TheVariants as constant
use Rattle.operations.specs.declared.operation.Operation.TheVariants.{Const, Return, StoreModule}
use Rattle.tree_promises.specs.Types.{DoesTypes, type_ways}
use Rattle.type_model.specs.Basic.{InBasic}
use Rattle.type_model.specs.Inclusion.{Sub}
use Rattle.type_model.specs.Membership.{In}
use Rattle.type_model.specs.declared.basic.BasicSet.TheVariants.{Nil as NilOnly}
use Rattle.type_model.specs.declared.atoms.AtomDef.{AtomDef}
use Rattle.type_model.specs.declared.basic.SemType.{SemType}
use Rattle.typed_needs.specs.Between.{IsTypedUnit, place_within}
use Rattle.typed_tree.specs.Exprs.{type_of}
use Rattle.typed_tree.specs.SharedTypes.{sem_of}
use Rattle.typed_needs.proofs.Strict.{types-itself}
use Rattle.typed_tree.specs.Units.{OfFunction, OfInitialiser, OfWorker, UnitBody}
use Rattle.typed_tree.specs.declared.unit.TypedBody.TheVariants.{Block, Expr}
use Rattle.typed_tree.specs.declared.package.Initial.{Initial}
use Rattle.typed_tree.specs.declared.stmt.TypedStmt.{TypedStmt}
use Rattle.typed_tree.specs.declared.unit.TypedWorker.{TypedWorker}
use Rattle.typed_units.specs.Bodies.{AllBodiesMakeTyped, InitialIsTyped}

nothing-below : (env : List AtomDef) (p : List SemType) → AreBelow env p [] → p ≡ []
nothing-below env [] h = refl
nothing-below env (t ∷ p) h = absurd h

module _ (env : List AtomDef) (place : Surroundings) where
  abbrev Tasks : List Task → List SemType → Type 0
  Tasks ts p = TasksOver (type_ways env place) ts p None

  -- statements, and what stands behind them
  stmts-over : (ss : List TypedStmt) (ts : List Task) (p : List SemType) → BlockOver (type_ways env place) ss None p [] → Tasks ts [] → Tasks (execs ss ts) p
  stmts-over [] ts p come tasks = subst (λ q. Tasks ts q) (sym (nothing-below env p come)) tasks
  stmts-over (s ∷ ss) ts p (m, way, rest) tasks = (p, m, types-itself env p, way, stmts-over ss ts m rest tasks)

  workers-over : (ws : List TypedWorker) (ts : List Task) → Tasks ts [] → Tasks (starts_named ws ts) []
  workers-over [] ts tasks = tasks
  workers-over (w ∷ ws) ts tasks =
      ([], [], tt, record { below = []; operands = []; result = None; are = refl; row = (refl, refl); behind = λ goes. tt }, tasks)

  -- ---- ends

  returns-so : (t : SemType) → Sub env t place.result → DoesTypes env place Return (t ∷ []) []
  returns-so t under =
      record { below = []; operands = t ∷ []; result = None; are = refl; row = ((λ x i. under x i.0 i.1), refl); behind = λ goes. absurd (goes tt) }

  nil-given : DoesTypes env place (Const constant.Nil) [] (nil_type ∷ [])
  nil-given =
      record { below = []; operands = []; result = Some nil_type; are = refl; row = (refl, nil-has); behind = λ goes. types-itself env (nil_type ∷ []) }
    where
      nil-has : ResultHas env (Some nil_type) (λ x. x ≡ NilShape)
      nil-has x valid e = subst (λ (z : Shape). InBasic z NilOnly) (sym e) tt

  end-over : (ends : Bool) → (ends ≡ true → Sub env nil_type place.result) → Tasks (at_end ends) []
  end-over true under = ([], nil_type ∷ [], tt, nil-given, (nil_type ∷ [], [], types-itself env (nil_type ∷ []), returns-so nil_type (under refl), (refl, refl)))
  end-over false under = (refl, refl)

  -- ---- initial values

  stores-so : (variable : ℕ) (t type : SemType) → slice_get place.variables variable ≡ Some type → Sub env t type → DoesTypes env place (StoreModule variable) (t ∷ []) []
  stores-so variable t type there fits =
      record {
        below = [];
        operands = t ∷ [];
        result = None;
        are = refl;
        row = (subst (λ o. IsSomeAnd o (λ s. IsWithin env (λ x. In env x s) t)) (sym there) (λ x i. fits x i.0 i.1), refl);
        behind = λ goes. tt;
      }

pub all-bodies-make-typed : AllBodiesMakeTyped
all-bodies-make-typed env place u =
    let inside : Surroundings = place_within place u in
    record {
      worker = λ ss ends is typed end. by (OfWorker ss ends) is (stmts-over env inside ss (at_end ends) [] typed (end-over env inside ends end));
      statements = λ initial workers rest ends close is first second end.
          by (OfFunction (Block initial workers rest ends close)) is
          (stmts-over env inside initial.items (starts_named workers.items (execs rest.items (at_end ends))) [] first
          (workers-over env inside workers.items (execs rest.items (at_end ends)) (stmts-over env inside rest.items (at_end ends) [] second (end-over env inside ends end))));
      value = λ v is typed under.
          by (OfFunction (Expr v)) is
          ([], sem_of (type_of v.value) ∷ [], tt, typed [], (sem_of (type_of v.value) ∷ [], [], types-itself env (sem_of (type_of v.value) ∷ []), returns-so env inside (sem_of (type_of v.value)) under, (refl, refl)));
      initialiser = λ is body typed end. by (OfInitialiser is) body (initials-over is typed (end-over env inside true (λ e. end)));
    }
  where
    by : (b : UnitBody) → u.tree.body ≡ b → TasksOver (type_ways env (place_within place u)) (body_tasks b) [] None → IsTypedUnit env place u
    by b is way = subst (λ x. TasksOver (type_ways env (place_within place u)) (body_tasks x) [] None) (sym is) way

    initials-over : (is : List Initial) → All (InitialIsTyped env place u) is → TasksOver (type_ways env (place_within place u)) (at_end true) [] None
        → TasksOver (type_ways env (place_within place u)) (initialises is (at_end true)) [] None
    initials-over [] typed end = end
    initials-over (i ∷ is) typed end =
        let h = All-head (InitialIsTyped env place u) i is typed in (
          [],
          sem_of (type_of i.value.value) ∷ [],
          tt,
          h.typed [],
          (
            sem_of (type_of i.value.value) ∷ [],
            [],
            types-itself env (sem_of (type_of i.value.value) ∷ []),
            stores-so env (place_within place u) i.variable (sem_of (type_of i.value.value)) h.type h.there h.fits,
            initials-over is (All-tail (InitialIsTyped env place u) i is typed) end,
          ),
        )
