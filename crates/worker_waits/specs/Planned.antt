-- Packages in which each function has a plan for its workers, where `passes` says which questions about types pass a limit.
use Rattle.std.specs.Prelude.{◌≡◌, ℕ, Bool, true, List, [], Some, All, slice_get}
use Rattle.bal_base.specs.declared.place.Place.{Place}
use Rattle.type_model.specs.declared.answers.TypeLimit.{TypeLimit}
use Rattle.type_model.specs.declared.atoms.AtomDef.{AtomDef}
use Rattle.type_model.specs.Calls.{Asked}
use Rattle.typed_tree.specs.declared.event.Plan.{Plan}
use Rattle.typed_tree.specs.declared.expr.TypedExpr.{TypedExpr}
use Rattle.typed_tree.specs.declared.package.Initial.{Initial}
use Rattle.typed_tree.specs.declared.package.TypedPackage.{TypedPackage}
use Rattle.typed_tree.specs.declared.stmt.TypedStmt.{TypedStmt}
use Rattle.typed_tree.specs.declared.unit.TypedBody.{TypedBody}
use Rattle.typed_tree.specs.declared.unit.TypedBody.TheVariants.{Block, Expr}
use Rattle.typed_tree.specs.declared.unit.TypedWorker.{TypedWorker}
use Rattle.typed_tree.specs.SharedTypes.{sem_of}
use Rattle.typed_tree.specs.Units.{UnitTree, OfFunction, OfWorker, OfAnonymous, OfInitialiser, unit_at}
use Rattle.checks.specs.Checks.{Gives}
use Rattle.worker_pairing.specs.Faults.{Atoms, plans}
use Rattle.worker_pairing.specs.Marks.{Members, expr_marks, members_of_body}
use Rattle.worker_waits.specs.Agreement.{none_said}

-- the named workers of a function
abbrev pub workers_of : TypedBody → List TypedWorker
workers_of (Block initial workers rest ends close) = workers.items
workers_of (Expr value) = []

-- these are the statements of a named worker of some function
pub record AreOfWorker (p : TypedPackage) (stmts : List TypedStmt) : Type 0 where
  pub number : ℕ
  pub function : UnitTree
  pub body : TypedBody
  pub there : unit_at p number ≡ Some function
  pub is : function.body ≡ OfFunction body
  pub place : ℕ
  pub worker : TypedWorker
  pub among : slice_get (workers_of body) place ≡ Some worker
  pub same : stmts ≡ worker.stmts.items

abbrev pub worker_tree : TypedWorker → UnitTree
worker_tree w = record { unit = w.unit; body = OfWorker w.stmts.items w.ends }

module _ (passes : List AtomDef → Asked → TypeLimit → Type 0) where
  -- for these workers there is a plan, over some atoms
  abbrev pub HasPlan : Members → Type 0
  HasPlan ms = (at : Place) × (old : Atoms) × (plan : Plan) × (new : Atoms) × plans passes at ms old (Gives plan) new

  pub record ArePlanned (p : TypedPackage) : Type 0 where
    -- each function has a plan
    pub functions : (n : ℕ) (u : UnitTree) (body : TypedBody) → unit_at p n ≡ Some u → u.body ≡ OfFunction body → HasPlan (members_of_body (sem_of u.unit.result) body)
    -- a named worker's unit is the one with its number, and each unit of a worker is that of a named worker
    pub named : (n : ℕ) (u : UnitTree) (body : TypedBody) → unit_at p n ≡ Some u → u.body ≡ OfFunction body → (i : ℕ) (w : TypedWorker) → slice_get (workers_of body) i ≡ Some w → unit_at p w.unit.number ≡ Some (worker_tree w)
    pub workers : (n : ℕ) (u : UnitTree) (stmts : List TypedStmt) (ends : Bool) → unit_at p n ≡ Some u → u.body ≡ OfWorker stmts ends → AreOfWorker p stmts
    -- elsewhere there are no events: values of anonymous functions and of module variables are expressions, and no actions
    pub anonymous : (n : ℕ) (u : UnitTree) (value : TypedExpr) → unit_at p n ≡ Some u → u.body ≡ OfAnonymous value → none_said (expr_marks value) ≡ true
    pub initial : (n : ℕ) (u : UnitTree) (values : List Initial) → unit_at p n ≡ Some u → u.body ≡ OfInitialiser values → All (λ i. none_said (expr_marks i.value.value) ≡ true) values
