-- Parts of tests of numbers, one behind another.
use Rattle.std.specs.Prelude.{◌≡◌, ◌≢◌, ◌↔◌, ◌+◌, ℕ, suc, Bool, true, false, List, Some, None, IsSomeAnd, IsTrue, Contains, get_or}
use Rattle.operations.specs.declared.operation.Operation.TheVariants as op
use Rattle.stack_code.specs.declared.code.Code.{Code}
use Rattle.stack_code.specs.declared.code.Unit.{Unit as CodeUnit}
use Rattle.stack_code.specs.declared.instr.Instr.{Instr}
use Rattle.stack_code.specs.declared.instr.Instr.TheVariants as instr
use Rattle.stack_code.specs.Commands.{Command, Do, command_at, command_of}
use Rattle.stack_code.specs.Flow.{HasTalliesOf, KeepsBelow, LandsAt, tally_landing, workers_here}
use Rattle.stack_code.specs.Places.{Station, stack_at, tally_at, traps_at}
use Rattle.code_needs.specs.PlaceNeeds.{CommandPasses, Reaches}
use Rattle.code_needs.specs.Stacks.{front_of}
use Rattle.place_numbers.specs.declared.changes.Change.{Change}
use Rattle.place_numbers.specs.declared.changes.Change.TheVariants.{Begun}
use Rattle.place_numbers.specs.inner.Changing.{changed}

-- a tick is spent at the place
abbrev pub IsTickAt : Code → ℕ → Type 0
IsTickAt code p = command_at code p ≡ Some (Do op.Tick)

abbrev pub tick_so : Instr → Bool
tick_so instr.Tick = true
tick_so _ = false

-- the second number in the place is one more than the first where it is the worker's, and the same where it is another's
abbrev pub GoesUp : List ℕ → List ℕ → ℕ → ℕ → Type 0
GoesUp ns ms w k = (k ≡ w → get_or ms k 0 ≡ suc (get_or ns k 0)) × (k ≢ w → get_or ms k 0 ≡ get_or ns k 0)

module _ (code : Code) (u : CodeUnit) (station : Station) (p : ℕ) where
  abbrev pub ReachesSo : ℕ → Change → Type 0
  ReachesSo to change = Reaches code u station p to (changed (workers_here code u station) change (tally_at code p))

  -- the named workers are started from a place without numbers
  abbrev pub IsUnstarted : Change → Type 0
  IsUnstarted change = change ≡ Begun → tally_at code p ≡ None

  abbrev pub BranchParts : ℕ → Type 0
  BranchParts to =
      KeepsBelow code u station p (front_of (stack_at code p)) × LandsAt code u station p to
      × Reaches code u station p (p + 1) (tally_at code p) × Reaches code u station p to (tally_at code p)

  abbrev pub TrapParts : ℕ → Type 0
  TrapParts to = LandsAt code u station p to × HasTalliesOf code u station p to × Reaches code u station p (p + 1) (tally_at code p)

  -- a place in the reach of the trap
  abbrev pub IsReached : ℕ → Type 0
  IsReached t = IsSomeAnd (traps_at code u p) (λ traps. Contains traps t)

  -- the numbers with which a panic comes from there are those where it lands
  abbrev pub LandsWith : ℕ → Type 0
  LandsWith to = tally_landing (command_at code p) (tally_at code p) ≡ tally_at code to

  -- what a test of the instruction tells
  abbrev pub TellsInstr : Instr → Bool → Type 0
  TellsInstr i passes = (command : Command) → command_of code i ≡ Some command → IsTrue passes ↔ CommandPasses code u station p command
