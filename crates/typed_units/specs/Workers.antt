-- Workers: all needs of one come to a worker whose unit and the units in it are typed.
use Rattle.std.specs.Prelude.{All, List, ℕ}
use Rattle.bal_tree.specs.declared.def.Worker.{Worker}
use Rattle.check_laws.specs.StmtLaws.{HasUnit}
use Rattle.check_words.specs.State.{BlockAtWork, IsLast, MatchAtWork, State}
use Rattle.descriptors.specs.declared.names.Names.{Names}
use Rattle.operations.specs.Rows.{Surroundings}
use Rattle.stmt_needs.specs.PackageTable.{worker_needs}
use Rattle.tree_promises.specs.Placed.{Placed, worker_placed}
use Rattle.type_model.specs.Calls.{Asked}
use Rattle.type_model.specs.declared.answers.TypeLimit.{TypeLimit}
use Rattle.type_model.specs.declared.atoms.AtomDef.{AtomDef}
use Rattle.typed_blocks.specs.Actions.{actions_in_block}
use Rattle.typed_bodies.specs.Units.{units_of_clauses, units_of_stmts}
use Rattle.typed_exprs.specs.Lines.{Run}
use Rattle.typed_needs.specs.Between.{IsStanding, IsTypedUnit, IsUnitAt, units_in}
use Rattle.typed_needs.specs.Items.{AreFirst}
use Rattle.typed_needs.specs.Placing.{AreNamed}
use Rattle.typed_needs.specs.Waits.{AreResults}
use Rattle.typed_stmts.specs.Assigned.{TakeValues}
use Rattle.typed_tree.specs.Listed.{members}
use Rattle.typed_tree.specs.declared.unit.TypedWorker.{TypedWorker}
use Rattle.typed_units.specs.Peers.{ActsOnPeers}

module _ (passes : List AtomDef → Asked → TypeLimit → Type 0) (names : Names) (env : List AtomDef) (place : Surroundings) where
  -- the units of a worker: its own, and those in its statements; what the workers of its function give is what the place has
  abbrev pub units_of_worker : TypedWorker → List Placed
  units_of_worker w = members (worker_placed place.workers w)

  -- what there is at the end of a worker is the first part of what there is at the end of all: atoms, and units in all that was made so far
  pub record HasWorkers (s : State) : Type 0 where
    pub first : AreFirst env s.atoms
    pub parts : All (IsUnitAt place) (units_in s.found)
    pub blocks : All (λ (b : BlockAtWork). All (IsUnitAt place) (units_of_stmts b.stmts)) s.blocks
    pub matches : All (λ (m : MatchAtWork). All (IsUnitAt place) (units_of_clauses m.clauses)) s.matches
    pub workers : All (λ w. All (IsUnitAt place) (units_of_worker w)) s.done.workers

  -- a worker is made last, with all its units typed
  pub record ComesToWorker (new : State) : Type 0 where
    pub worker : TypedWorker
    pub last : IsLast new.done.workers worker
    pub units : All (IsTypedUnit env place) (units_of_worker worker)

  abbrev pub WorkerIsTyped : Type 0
  WorkerIsTyped =
      (x : Worker) (number : ℕ) (old new : State) → HasUnit old → Run passes names env (worker_needs number x) old new → IsStanding old → HasWorkers new
      → AreResults env place old.site.results → All (ActsOnPeers old.site.workers number) (members (actions_in_block x.body)) → ComesToWorker new

-- where the place has the package's variables and functions
abbrev pub AllWorkersAreTyped : (List AtomDef → Asked → TypeLimit → Type 0) → Type 0
AllWorkersAreTyped passes =
    (names : Names) (env : List AtomDef) (place : Surroundings) → AreNamed env names place → TakeValues env names place → WorkerIsTyped passes names env place
