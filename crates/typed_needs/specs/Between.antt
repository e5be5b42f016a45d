-- What is kept between two needs, and what is known of a state on the way from what there is at the end.
use Rattle.std.specs.Prelude.{◌≡◌, List, [], All, IfSome, None, Some, map, slice_get}
use Rattle.descriptors.specs.declared.names.Names.{Names}
use Rattle.operations.specs.Rows.{Surroundings}
use Rattle.type_model.specs.declared.answers.TypeLimit.{TypeLimit}
use Rattle.type_model.specs.declared.atoms.AtomDef.{AtomDef}
use Rattle.type_model.specs.Calls.{Asked}
use Rattle.type_model.specs.Defined.{IsEnv}
use Rattle.typed_tree.specs.declared.expr.TypedExpr.{TypedExpr}
use Rattle.typed_tree.specs.Listed.{joined, members}
use Rattle.typed_tree.specs.SharedTypes.{sem_of}
use Rattle.expr_needs.specs.Needs.{Need}
use Rattle.flow_narrowing.specs.declared.flow.Flow.{Flow}
use Rattle.check_words.specs.Meets.{meets}
use Rattle.check_words.specs.Stands.{Stands}
use Rattle.check_words.specs.State.{State, Ways}
use Rattle.check_words.specs.Words.{Step}
use Rattle.eval_model.specs.TaskWalk.{TasksOver}
use Rattle.eval_model.specs.Trees.{body_tasks}
use Rattle.tree_promises.specs.Placed.{Placed, expr_placed, signature_of, slot_types}
use Rattle.tree_promises.specs.Types.{type_ways}
use Rattle.typed_needs.specs.Items.{AreFirst}
use Rattle.typed_needs.specs.Placing.{AreStored, IsPlaced, IsStored}

-- ---- states that stand

-- each type at hand names atoms that are there, and so do the atoms themselves
pub record IsStanding (s : State) : Type 0 where
  pub env : IsEnv s.atoms
  pub stands : Stands s

-- `passes`: which questions pass a limit; `names`: what names stand for
module _ (passes : List AtomDef → Asked → TypeLimit → Type 0) (names : Names) where
  -- a need is met, and what comes of it stands
  abbrev pub stood : Need → Step
  stood need old outcome new = meets passes names need old outcome new × IsStanding new

-- ---- variables and their slots

abbrev pub FlowIsStored : Surroundings → Flow → Type 0
FlowIsStored place f = All (IsStored place) f.variables

-- where the last part is a condition, what is known where it holds and where it doesn't is of variables that are so
pub record WaysAreStored (place : Surroundings) (w : Ways) : Type 0 where
  pub yes : FlowIsStored place w.yes
  pub no : FlowIsStored place w.no

-- what goes on from need to need, in the unit at hand
pub record IsKept (place : Surroundings) (s : State) : Type 0 where
  pub standing : IsStanding s
  pub stored : AreStored place s
  pub ways : IfSome s.ways (WaysAreStored place)

-- ---- units

-- the units of the anonymous functions in expressions, in the order of the text
abbrev pub units_in : List TypedExpr → List Placed
units_in es = members (joined (map expr_placed es))

-- where the operations of a unit of the same package stand
abbrev pub place_within : Surroundings → Placed → Surroundings
place_within place u =
    record {
      units = place.units;
      variables = place.variables;
      slots = slot_types u.tree.unit;
      result = sem_of u.tree.unit.result;
      workers = u.crew;
    }

-- the place has it by its number
abbrev pub IsUnitAt : Surroundings → Placed → Type 0
IsUnitAt place u = slice_get place.units u.tree.unit.number ≡ Some (signature_of (Some u))

-- there is a way through its body by the types of operands
abbrev pub IsTypedUnit : List AtomDef → Surroundings → Placed → Type 0
IsTypedUnit env place u = TasksOver (type_ways env (place_within place u)) (body_tasks u.tree.body) [] None

-- ---- states on the way

-- What a state has by now is the first part of what there is at the end: its atoms, the slots of the unit at hand, and the units in its parts.
pub record IsSoFar (env : List AtomDef) (place : Surroundings) (s : State) : Type 0 where
  pub first : AreFirst env s.atoms
  pub placed : IsPlaced place s
  pub units : All (IsUnitAt place) (units_in s.found)
