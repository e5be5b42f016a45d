-- The names of a wait stand for strands: each is that of a worker, or of the next of the futures that are operands.
use Rattle.std.proofs.Common.{◌≡◌, ◌+◌, ◌∙◌, ℕ, suc, List, [], ◌∷◌, Option, Some, None, length, refl, sym, ap, subst}
use Rattle.std.proofs.lemmas.List.Elements.{All-head, All-tail}
use Rattle.std.specs.Prelude.{All, IsSome, slice_get}
use Rattle.bal_base.specs.declared.shape.Shape.{Shape}
use Rattle.type_model.specs.declared.basic.SemType.{SemType}
use Rattle.operations.specs.Kinds.{IsFuture}
use Rattle.operations.specs.Rows.{IsWithin, Surroundings}
use Rattle.operations.specs.Structures.{AwaitsEach, GivenByFuture, GivenByWorker}
use Rattle.operations.specs.Talk.{workers_in}
use Rattle.value_model.specs.declared.value.Value.{Value}
use Rattle.value_model.specs.declared.value.Value.TheVariants.{Future}
use Rattle.op_model.specs.Common.{Common, Role}
use Rattle.op_model.specs.Local.{futures_in}
use Rattle.op_model.specs.Waits.{Target, future_target, targets, with_target, worker_target}
use Rattle.stack_code.specs.declared.code.Code.{Code}
use Rattle.stack_code.specs.Values.{AllFit, Fits}

module _ (code : Code) (place : Surroundings) (each : ℕ → (Shape → Type 0) → Type 0) where
  -- as many operands as futures are named
  pub futures-long : (names : List (Option ℕ)) (k : ℕ) (os : List SemType) → AwaitsEach code.atoms place each k names os → length os ≡ futures_in names
  futures-long [] k [] h = refl
  futures-long [] k (o ∷ os) h = absurd h
  futures-long (Some w ∷ names) k os h = futures-long names (k + 1) os h.2
  futures-long (None ∷ names) k (o ∷ os) h = ap suc (futures-long names (k + 1) os h.2)
  futures-long (None ∷ names) k [] h = absurd h

  module _ (c : Common) (role : Option Role) (Named : ℕ → Type 0) (Fit : ℕ → Target → Type 0) where
    -- a worker that is named has a strand that fits its place
    abbrev pub WorkersFit : Type 0
    WorkersFit = (k w : ℕ) → Named w → IsSome (slice_get place.workers w) → each k (GivenByWorker code.atoms place w) → (r : Role) × (role ≡ Some r) × (t : Target) × (worker_target c r w ≡ Some t) × Fit k t

    -- and so has a future
    abbrev pub FuturesFit : Type 0
    FuturesFit = (k : ℕ) (v : Value) (a : SemType) → Fits code c v a → IsWithin code.atoms IsFuture a → each k (GivenByFuture code.atoms a) → (n unit : ℕ) × (v ≡ Future n unit) × Fit k (future_target n)

    abbrev pub FitFrom : ℕ → List Target → Type 0
    FitFrom k [] = Unit {0}
    FitFrom k (t ∷ ts) = Fit k t × FitFrom (k + 1) ts

    -- the strands that are waited for
    pub record AreTargets (k : ℕ) (names : List (Option ℕ)) (vs : List Value) : Type 0 where
      pub targets-are : List Target
      pub is : targets c role names vs ≡ Some targets-are
      pub fit : FitFrom k targets-are
      pub many : length targets-are ≡ length names

    none-named : targets c role [] [] ≡ Some []
    none-named = by role
      where
        by : (q : Option Role) → targets c q [] [] ≡ Some []
        by (Some r) = refl
        by None = refl

    worker-named : (r : Role) (w : ℕ) (t : Target) (names : List (Option ℕ)) (vs : List Value) (ts : List Target) → role ≡ Some r → worker_target c r w ≡ Some t → targets c role names vs ≡ Some ts → targets c role (Some w ∷ names) vs ≡ Some (t ∷ ts)
    worker-named r w t names vs ts er et e =
        ap (λ q. targets c q (Some w ∷ names) vs) er ∙ (ap (λ o. with_target o (targets c (Some r) names vs)) et ∙ ap (λ o. with_target (Some t) o) (ap (λ q. targets c q names vs) (sym er) ∙ e))

    future-named : (n unit : ℕ) (names : List (Option ℕ)) (vs : List Value) (ts : List Target) → targets c role names vs ≡ Some ts → targets c role (None ∷ names) (Future n unit ∷ vs) ≡ Some (future_target n ∷ ts)
    future-named n unit names vs ts e = by role e
      where
        by : (q : Option Role) → targets c q names vs ≡ Some ts → targets c q (None ∷ names) (Future n unit ∷ vs) ≡ Some (future_target n ∷ ts)
        by (Some r) e = ap (λ o. with_target (Some (future_target n)) o) e
        by None e = ap (λ o. with_target (Some (future_target n)) o) e

    pub targets-fit : WorkersFit → FuturesFit → (names : List (Option ℕ)) (k : ℕ) (os : List SemType) (vs : List Value) → All Named (workers_in names) → AwaitsEach code.atoms place each k names os → AllFit code c vs os → AreTargets k names vs
    targets-fit workers futures [] k [] [] named h fit = record { targets-are = []; is = none-named; fit = tt; many = refl }
    targets-fit workers futures [] k [] (v ∷ vs) named h fit = absurd fit
    targets-fit workers futures [] k (o ∷ os) vs named h fit = absurd h
    targets-fit workers futures (Some w ∷ names) k os vs named (some, e, more) fit =
        let (r, er, t, et, ok) = workers k w (All-head Named w (workers_in names) named) some e in
        let rest = targets-fit workers futures names (k + 1) os vs (All-tail Named w (workers_in names) named) more fit in
        record { targets-are = t ∷ rest.targets-are; is = worker-named r w t names vs rest.targets-are er et rest.is; fit = (ok, rest.fit); many = ap suc rest.many }
    targets-fit workers futures (None ∷ names) k (a ∷ os) (v ∷ vs) named (is-future, e, more) (fv, fit) =
        let (n, unit, is, ok) = futures k v a fv is-future e in
        let rest = targets-fit workers futures names (k + 1) os vs named more fit in
        record {
          targets-are = future_target n ∷ rest.targets-are;
          is = subst (λ z. targets c role (None ∷ names) (z ∷ vs) ≡ Some (future_target n ∷ rest.targets-are)) (sym is) (future-named n unit names vs rest.targets-are rest.is);
          fit = (ok, rest.fit);
          many = ap suc rest.many;
        }
    targets-fit workers futures (None ∷ names) k (a ∷ os) [] named h fit = absurd fit
    targets-fit workers futures (None ∷ names) k [] vs named h fit = absurd h
