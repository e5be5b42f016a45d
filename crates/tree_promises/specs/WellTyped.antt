-- Typed trees that are well typed: what the checkers promise to all that follows.
use Rattle.std.specs.Prelude.{◌≡◌, ◌<◌, ℕ, List, [], All, Contains, length, map, Some, None, IsSomeAnd, slice_get, take}
use Rattle.std.specs.List.{AllZip, flat_map}
use Rattle.type_model.specs.declared.atoms.AtomDef.{AtomDef}
use Rattle.type_model.specs.declared.basic.SemType.{SemType}
use Rattle.type_model.specs.Inclusion.{Sub}
use Rattle.operations.specs.Rows.{Surroundings}
use Rattle.typed_tree.specs.declared.package.TypedPackage.{TypedPackage}
use Rattle.typed_tree.specs.declared.unit.Captured.{Captured}
use Rattle.typed_tree.specs.declared.unit.TypedWorker.{TypedWorker}
use Rattle.typed_tree.specs.SharedTypes.{sem_of}
use Rattle.typed_tree.specs.Units.{UnitBody, OfFunction, OfWorker, OfAnonymous, OfInitialiser, UnitTree, units_of}
use Rattle.eval_model.specs.TaskWalk.{TasksOver}
use Rattle.eval_model.specs.Trees.{body_tasks}
use Rattle.tree_promises.specs.Flows.{Around, flow_ways}
use Rattle.tree_promises.specs.Known.{Known, plain}
use Rattle.tree_promises.specs.Placed.{Placed, named_workers, placed_units, slot_types, surroundings}
use Rattle.tree_promises.specs.Types.{type_ways}

-- ---- one unit

abbrev pub workers_of : UnitBody → List TypedWorker
workers_of (OfFunction body) = named_workers body
workers_of (OfWorker stmts ends) = []
workers_of (OfAnonymous value) = []
workers_of (OfInitialiser values) = []

-- the variables that its named workers capture, worker by worker
abbrev pub captured_by_workers : UnitTree → List Captured
captured_by_workers u = flat_map (λ w. w.captured) (workers_of u.body)

abbrev pub around_of : UnitTree → Around
around_of u = record { slots = slot_types u.unit; captured = captured_by_workers u }

module _ (env : List AtomDef) where
  -- of each variable that a worker captures both the declared type and that to which it is narrowed are below the declared type of the
  -- worker's own slot
  abbrev pub CapturedFits : List SemType → Captured → SemType → Type 0
  CapturedFits slots c inner = Sub env (sem_of c.ty) inner × IsSomeAnd (slice_get slots c.slot) (λ t. Sub env t inner)

  abbrev pub WorkerFits : List SemType → TypedWorker → Type 0
  WorkerFits slots w = (w.unit.params ≡ 0) × AllZip (CapturedFits slots) w.captured (take (length w.captured) (slot_types w.unit))

  -- There is a way through the unit's body by the types of operands, from none on, and one by what is known of its slots, from this on.
  -- So the operands of each operation are those of one of its rows, and each call has the arguments that its unit takes; a variable is
  -- read only where it holds a value, and as what it is narrowed to only behind a test; `break` and `continue` stand in loops; where the
  -- end of the body is said to be reached nil is a result, and where it isn't, no way leads there.
  pub record WellTypedTree (place : Surroundings) (known : Known) (u : UnitTree) : Type 0 where
    pub types : TasksOver (type_ways env place) (body_tasks u.body) [] None
    pub flows : TasksOver (flow_ways env (around_of u)) (body_tasks u.body) (plain (Some known) None) None
    pub workers : All (WorkerFits (slot_types u.unit)) (workers_of u.body)

  -- ---- a package

  abbrev pub IsWellTyped : TypedPackage → Placed → Type 0
  IsWellTyped p u = WellTypedTree (surroundings p u) u.known u.tree

  -- each number below that of all units is that of one, and there are no more
  pub record AreNumbered (p : TypedPackage) : Type 0 where
    pub many : length (units_of p) ≡ p.units
    pub each : (n : ℕ) → n < p.units → Contains (map (λ u. u.unit.number) (units_of p)) n

  pub record WellTypedPackage (p : TypedPackage) : Type 0 where
    -- each unit is placed
    pub covered : map (λ u. u.tree) (placed_units p) ≡ units_of p
    pub units : All (IsWellTyped p) (placed_units p)
    pub numbered : AreNumbered p
