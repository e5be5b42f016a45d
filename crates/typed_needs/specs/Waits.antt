-- What waits are, as typed parts, name by name.
use Rattle.std.specs.Prelude.{◌≡◌, ◌++◌, ℕ, List, [], ◌∷◌, IsSomeAnd, Ok, Some, None, Result, slice_get}
use Rattle.bal_base.specs.declared.fault.Fault.{Fault}
use Rattle.bal_base.specs.declared.shape.Shape.{Shape}
use Rattle.bal_base.specs.Valid.{IsValid}
use Rattle.bal_tree.specs.declared.name.QualifiedName.{QualifiedName}
use Rattle.descriptors.specs.declared.names.Names.{Names}
use Rattle.operations.specs.Kinds.{IsFuture}
use Rattle.operations.specs.Rows.{IsWithin, Surroundings}
use Rattle.operations.specs.Structures.{GivenByFuture}
use Rattle.type_model.specs.declared.answers.TypeLimit.{TypeLimit}
use Rattle.type_model.specs.declared.atoms.AtomDef.{AtomDef}
use Rattle.type_model.specs.Calls.{Asked}
use Rattle.type_model.specs.Inclusion.{Sub}
use Rattle.type_model.specs.Membership.{In}
use Rattle.typed_tree.specs.declared.expr.TypedExpr.{TypedExpr}
use Rattle.typed_tree.specs.SharedTypes.{Shared, sem_of}
use Rattle.expr_needs.specs.Needs.{Awaits}
use Rattle.check_words.specs.Seen.{worker_named}
use Rattle.check_words.specs.State.{IsLast, State}
use Rattle.tree_promises.specs.Made.{sem}
use Rattle.tree_promises.specs.Types.{IsTypedExpr}
use Rattle.typed_needs.specs.Pieces.{IsBefore, IsMet}
use Rattle.typed_needs.specs.Placing.{AreNamed, AreStored}

-- what is told of the results of workers is what the place has
abbrev pub AreResults : List AtomDef → Surroundings → List (Result Shared Fault) → Type 0
AreResults env place results = (w : ℕ) (t : Shared) → slice_get results w ≡ Some (Ok t) → IsSomeAnd (slice_get place.workers w) (λ s. Sub env s (sem_of t))

module _ (env : List AtomDef) (place : Surroundings) where
  -- all that the worker, or the future, gives is of the type
  abbrev pub WorkerGives : ℕ → Shared → Type 0
  WorkerGives w t = IsSomeAnd (slice_get place.workers w) (λ s. Sub env s (sem_of t))

  abbrev pub FutureGives : TypedExpr → Shared → Type 0
  FutureGives e t = IsWithin env IsFuture (sem e) × ((x : Shape) → IsValid x → GivenByFuture env (sem e) x → In env x (sem_of t))

module _ (passes : List AtomDef → Asked → TypeLimit → Type 0) (names : Names) (env : List AtomDef) (place : Surroundings) where
  -- a worker in a wait: what it gives is wanted, and there is no part
  abbrev pub WorkerIsAwaited : Type 0
  WorkerIsAwaited =
      (q : QualifiedName) (w : ℕ) (old new : State) → IsMet passes names env (Awaits q) old new → worker_named old.site.workers q ≡ Some w
      → AreResults env place old.site.results → (t : Shared) × (new ≡ record old { wants = old.wants ++ Some t ∷ [] }) × WorkerGives env place w t

  -- a future in a wait is a typed part
  pub record AwaitsFuture (old new : State) : Type 0 where
    pub part : TypedExpr
    pub want : Shared
    pub found : new.found ≡ old.found ++ part ∷ []
    pub wants : IsLast new.wants (Some want)
    pub typed : IsTypedExpr env place part
    pub gives : FutureGives env place part want

  abbrev pub FutureIsAwaited : Type 0
  FutureIsAwaited =
      (q : QualifiedName) (old new : State) → IsBefore env new → IsMet passes names env (Awaits q) old new → worker_named old.site.workers q ≡ None
      → AreStored place old → AreNamed env names place → AwaitsFuture old new

  pub record WaitsAreTyped : Type 0 where
    pub workers : WorkerIsAwaited
    pub futures : FutureIsAwaited

abbrev pub AllWaitsAreTyped : (List AtomDef → Asked → TypeLimit → Type 0) → Type 0
AllWaitsAreTyped passes = (names : Names) (env : List AtomDef) (place : Surroundings) → WaitsAreTyped passes names env place
