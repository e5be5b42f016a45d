-- What is known at a place of a code: its unit, its map, and the traps in whose reach it is.
use Rattle.std.specs.Prelude.{◌≡◌, ◌≤◌, ◌<◌, ◌-◌, ◌+◌, ℕ, zero, suc, false, List, [], ◌∷◌, Option, Some, None, IsSomeAnd, Any, get_or, if◌then◌else◌, map, slice_get}
use Rattle.type_model.specs.declared.basic.BasicSet.TheVariants.{Never}
use Rattle.type_model.specs.declared.basic.SemType.{SemType, Basic}
use Rattle.operations.specs.Rows.{Signature, Surroundings}
use Rattle.stack_code.specs.declared.code.Code.{Code}
use Rattle.stack_code.specs.declared.code.Unit.{Unit as CodeUnit}
use Rattle.stack_code.specs.declared.code.StackMap.{StackMap}
use Rattle.stack_code.specs.Commands.{Command, Do, GoTo, GoToIfNot, OpenTrap, CloseTrap, command_at}

-- ---- units and workers

abbrev pub signature_of : CodeUnit → Signature
signature_of u = record { params = u.params; captured = u.captured; result = u.result; arrow = u.arrow; future = u.future }

-- which worker of which function a unit is; the default worker is 0
pub record Station : Type 0 where
  pub function : ℕ
  pub worker : ℕ

-- the units of a function's workers, by their numbers, its own first
abbrev pub crew_of : ℕ → Option CodeUnit → List ℕ
crew_of function (Some f) = function ∷ map (λ w. w.unit) f.workers
crew_of function None = []

abbrev pub result_in : Option CodeUnit → SemType
result_in (Some u) = u.result
result_in None = Basic Never

module _ (code : Code) where
  abbrev pub crew : ℕ → List ℕ
  crew function = crew_of function (slice_get code.units function)

  -- the unit is a named worker of some function
  abbrev pub IsWorkerUnit : ℕ → Type 0
  IsWorkerUnit unit = Any (λ f. Any (λ w. w.unit ≡ unit) f.workers) code.units

  -- the unit is this worker; one that is no named worker is the default worker of its own
  abbrev pub IsStation : ℕ → Station → Type 0
  IsStation unit station =
      (slice_get (crew station.function) station.worker ≡ Some unit) × (station.worker ≡ 0 → ¬ (IsWorkerUnit unit))

  -- what the typing rows need to know of where an operation stands
  abbrev pub surroundings : CodeUnit → Station → Surroundings
  surroundings u station =
      record {
        units = map signature_of code.units;
        variables = code.variables;
        slots = u.slots;
        result = u.result;
        workers = map (λ n. result_in (slice_get code.units n)) (crew station.function);
      }

-- the place is in the unit
abbrev pub IsIn : CodeUnit → ℕ → Type 0
IsIn u p = (u.first ≤ p) × (p < u.end)

abbrev pub IsInUnit : Code → ℕ → ℕ → Type 0
IsInUnit code unit p = IsSomeAnd (slice_get code.units unit) (λ u. IsIn u p)

-- ---- maps

abbrev pub no_map : StackMap
no_map = record { stack = []; counted = false; sent = []; received = [] }

abbrev pub map_at : Code → ℕ → StackMap
map_at code p = get_or code.maps p no_map

abbrev pub stack_at : Code → ℕ → List SemType
stack_at code p = (map_at code p).stack

-- the numbers of messages so far: sent to each worker, and received from each
pub record Tally : Type 0 where
  pub sent : List ℕ
  pub received : List ℕ

abbrev pub tally_of : StackMap → Option Tally
tally_of m = if m.counted then Some (record { sent = m.sent; received = m.received }) else None

abbrev pub tally_at : Code → ℕ → Option Tally
tally_at code p = tally_of (map_at code p)

-- ---- traps, by the order of places

-- behind a place with this command
abbrev pub traps_behind : ℕ → Option Command → List ℕ → Option (List ℕ)
traps_behind p (Some (OpenTrap landing)) traps = Some (p ∷ traps)
traps_behind p (Some CloseTrap) (t ∷ traps) = Some traps
traps_behind p (Some CloseTrap) [] = None
traps_behind p (Some (Do op)) traps = Some traps
traps_behind p (Some (GoTo to)) traps = Some traps
traps_behind p (Some (GoToIfNot to)) traps = Some traps
traps_behind p None traps = Some traps

abbrev pub traps_then : ℕ → Option Command → Option (List ℕ) → Option (List ℕ)
traps_then p command (Some traps) = traps_behind p command traps
traps_then p command None = None

-- the traps in whose reach the place is that comes so many behind the first one, the innermost first: those that were
-- opened before it and not closed before it. Nothing, where more were closed than opened
abbrev pub traps_from : Code → ℕ → ℕ → Option (List ℕ)
traps_from code first zero = Some []
traps_from code first (suc n) = traps_then (first + n) (command_at code (first + n)) (traps_from code first n)

abbrev pub traps_at : Code → CodeUnit → ℕ → Option (List ℕ)
traps_at code u p = traps_from code u.first (p - u.first)
