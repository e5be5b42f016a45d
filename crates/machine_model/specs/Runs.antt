-- Whole runs: the running strand steps until it blocks or ends, and then the order's next place names the next one.
use Rattle.std.specs.Prelude.{◌≡◌, ◌<◌, ◌^◌, ◌+◌, ◌++◌, ℕ, Bool, false, suc, List, [], ◌∷◌, Option, Some, None, All, get_or, length, option_map, remove, replicate, map, slice_get, slice_set}
use Rattle.bal_base.specs.Valid.{IsText}
use Rattle.bal_base.specs.declared.fault.LimitKind.{LimitKind}
use Rattle.bal_base.specs.declared.text.Text.{Text}
use Rattle.operations.specs.declared.operation.Operation.{Operation}
use Rattle.value_model.specs.declared.value.Value.{Value}
use Rattle.value_model.specs.declared.value.Value.TheVariants.{Str, Struct}
use Rattle.value_model.specs.Heap.{Items, no_heap}
use Rattle.value_model.specs.Meaning.{Answers}
use Rattle.value_model.specs.World.{World}
use Rattle.op_model.specs.Rows.{makes, new_structure}
use Rattle.op_model.specs.Common.{Common, IsActive}
use Rattle.machine_model.specs.Machine.{Machine, Ask, On, Does, Stuck, Launch, Frame, State, Moved, Blocked, Ended, NeedsTick, Limit, begun, Step}

-- ---- the start

-- what a run may be started with: fewer than 2^63 texts
abbrev pub AreWords : List Text → Type 0
AreWords words = All IsText words × length words < 2 ^ 63

-- the list of main's arguments is made before the first step
abbrev pub first_world : Option ℕ → List Text → List ℕ → World
first_world (Some atom) words input =
    makes (record { heap = no_heap; input = input; output = [] }) (new_structure (Some atom) Bool.true (Items (map Str words)) ∷ [])
first_world None words input = record { heap = no_heap; input = input; output = [] }

abbrev pub main_arguments : Option ℕ → List Value
main_arguments (Some atom) = Struct 0 ∷ []
main_arguments None = []

-- strand 0 is there and ready
abbrev pub first_common : Launch → List Text → List ℕ → ℕ → Common
first_common l words input ticks =
    record {
      world = first_world l.words words input;
      strands = record { unit = l.main; role = None; status = IsActive; taken = false } ∷ [];
      activations = [];
      variables = replicate l.variables None;
      ready = 0 ∷ [];
      running = 0;
      to_run = [];
      ticks = ticks;
      picks = 0;
    }

module _ {C : Type 0} (M : Machine C) where
  -- strand 0 runs the initialisers and then main
  abbrev pub units_to_run : List (ℕ × List Value)
  units_to_run = map (λ u. (u, [])) M.facts.initialisers ++ (M.launch.main, main_arguments M.launch.words) ∷ []

  abbrev pub begins_with : Common → List (ℕ × List Value) → Option (State C)
  begins_with c [] = None
  begins_with c (u ∷ us) =
      option_map (λ f. record { common = record c { to_run = us }; frames = []; others = (f ∷ []) ∷ [] }) (begun M u.0 u.1 None)

  -- the state before the first pick, where there is a unit to begin with
  abbrev pub start : List Text → List ℕ → ℕ → Option (State C)
  start words input ticks = begins_with (first_common M.launch words input ticks) units_to_run

-- ---- picks

-- the strand with this number, which stands at this place of the ready list, is picked
abbrev pub taken_up : Common → ℕ → ℕ → Common
taken_up c place n = record c { ready = remove c.ready place; running = n; picks = c.picks + 1 }

abbrev pub picked : {C : Type 0} → State C → ℕ → ℕ → State C
picked s place n = record { common = taken_up s.common place n; frames = get_or s.others n []; others = slice_set s.others n [] }

-- ---- runs

pub data Phase : Type 0 where
  Running : Phase
  -- no strand runs
  Picking : Phase

pub data Stop : Type 0 where
  -- no strand is ready
  Over : Stop
  -- the next step needs a tick, and none is left
  TicksSpent : Stop
  -- the next step would pass a limit
  PastLimit : LimitKind → Stop

module _ {C : Type 0} (natives : Answers) (M : Machine C) where
  -- in so many steps the run goes from the state, by just this order of picks, to this stop with this in common
  pub data Runs : Phase → ℕ → State C → List ℕ → Stop → Common → Type 0 where
    moves : {n : ℕ} {s t : State C} {order : List ℕ} {stop : Stop} {c : Common} → Step natives M s (Moved t) → Runs Running n t order stop c → Runs Running (suc n) s order stop c
    blocks : {n : ℕ} {s t : State C} {order : List ℕ} {stop : Stop} {c : Common} → Step natives M s (Blocked t) → Runs Picking n t order stop c → Runs Running (suc n) s order stop c
    ends : {n : ℕ} {s t : State C} {order : List ℕ} {stop : Stop} {c : Common} → Step natives M s (Ended t) → Runs Picking n t order stop c → Runs Running (suc n) s order stop c
    needs_tick : {s : State C} → Step natives M s NeedsTick → Runs Running 0 s [] TicksSpent s.common
    passes : {s : State C} {limit : LimitKind} → Step natives M s (Limit limit) → Runs Running 0 s [] (PastLimit limit) s.common
    picks : {n place k : ℕ} {s : State C} {order : List ℕ} {stop : Stop} {c : Common} → slice_get s.common.ready place ≡ Some k → Runs Running n (picked s place k) order stop c → Runs Picking n s (place ∷ order) stop c
    over : {s : State C} → s.common.ready ≡ [] → Runs Picking 0 s [] Over s.common

  -- the states that a run comes to after so many steps, by this order of picks so far
  pub data Reaches (words : List Text) (input : List ℕ) (ticks : ℕ) : Phase → ℕ → List ℕ → State C → Type 0 where
    starts : {s : State C} → start M words input ticks ≡ Some s → Reaches words input ticks Picking 0 [] s
    after_move : {n : ℕ} {order : List ℕ} {s t : State C} → Reaches words input ticks Running n order s → Step natives M s (Moved t) → Reaches words input ticks Running (suc n) order t
    after_block : {n : ℕ} {order : List ℕ} {s t : State C} → Reaches words input ticks Running n order s → Step natives M s (Blocked t) → Reaches words input ticks Picking (suc n) order t
    after_end : {n : ℕ} {order : List ℕ} {s t : State C} → Reaches words input ticks Running n order s → Step natives M s (Ended t) → Reaches words input ticks Picking (suc n) order t
    after_pick : (place : ℕ) {n k : ℕ} {order : List ℕ} {s : State C} → Reaches words input ticks Picking n order s → slice_get s.common.ready place ≡ Some k → Reaches words input ticks Running n (order ++ place ∷ []) (picked s place k)

  -- at any time, under some order
  abbrev pub IsReached : List Text → List ℕ → ℕ → Phase → State C → Type 0
  IsReached words input ticks phase s = (n : ℕ) × (order : List ℕ) × Reaches words input ticks phase n order s

-- ---- what the next step does

abbrev pub does_in : {C : Type 0} → Ask C → Option (Operation × List Value)
does_in (On c) = None
does_in (Does op vs k) = Some (op, vs)
does_in Stuck = None

-- the operation that the next step does, with its operands, where it does one
abbrev pub next_operation : {C : Type 0} → Machine C → List (Frame C) → Option (Operation × List Value)
next_operation M [] = None
next_operation M (f ∷ fs) = does_in (M.look f.unit f.control)
