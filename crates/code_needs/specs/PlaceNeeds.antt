-- The needs of a place in its unit: beside what its instruction needs, what it needs of the next place and of open traps.
use Rattle.std.specs.Prelude.{◌≡◌, ◌+◌, ℕ, List, [], ◌∷◌, Option, None, All, IsSomeAnd, not}
use Rattle.type_model.specs.declared.basic.SemType.{SemType}
use Rattle.type_model.specs.Defined.{IsDefined}
use Rattle.operations.specs.declared.operation.Operation.{Operation}
use Rattle.machine_model.specs.Following.{EndsFrame}
use Rattle.stack_code.specs.declared.code.Code.{Code}
use Rattle.stack_code.specs.declared.code.Unit.{Unit as CodeUnit}
use Rattle.stack_code.specs.Commands.{Command, Do, GoTo, GoToIfNot, OpenTrap, CloseTrap, command_at}
use Rattle.stack_code.specs.Flow.{HasTalliesOf, IsBeforeWorkers, IsInTrap, KeepsBelow, LandsAt, tally_behind, workers_here}
use Rattle.stack_code.specs.Places.{IsIn, Station, Tally, stack_at, surroundings, tally_at, traps_at}
use Rattle.code_needs.specs.Combining.{Needs, ◌&◌, each, each_zip, need, nothing, of_some, only_if}
use Rattle.code_needs.specs.declared.kind.Kind.TheVariants.{Booleans, Errors}
use Rattle.code_needs.specs.Needs.{Below, Has, Within}
use Rattle.code_needs.specs.RowNeeds.{below_each, row_needs, within}
use Rattle.code_needs.specs.Stacks.{ends, front_of, last_of, operands_of, rest_of, result_of, stay_of}

-- the types have the same shapes, one by one
abbrev pub same_each : List SemType → List SemType → Needs
same_each = each_zip (λ s t. need (Below s t) & need (Below t s))

-- the first types are below these, one by one
abbrev pub begins_below : List SemType → List SemType → Needs
begins_below types [] = nothing
begins_below [] (t ∷ ts) = None
begins_below (s ∷ types) (t ∷ ts) = need (Below s t) & begins_below types ts

module _ (code : Code) (u : CodeUnit) (station : Station) (p : ℕ) where
  -- ---- what instructions need

  abbrev pub does_needs : Operation → Needs
  does_needs o =
      row_needs code.atoms (surroundings code u station) o (operands_of o (stack_at code p)) (result_of o (stack_at code (p + 1)))
      & only_if (not (ends o)) (below_each (rest_of o (stack_at code p)) (stay_of o (stack_at code (p + 1))))

  abbrev pub branch_needs : ℕ → Needs
  branch_needs to =
      of_some (last_of (stack_at code p)) (λ condition. within condition Booleans)
      & below_each (front_of (stack_at code p)) (stack_at code (p + 1)) & below_each (front_of (stack_at code p)) (stack_at code to)

  -- where a trap lands, an error stands above the types at the trap
  abbrev pub landing_needs : ℕ → Needs
  landing_needs to =
      of_some (last_of (stack_at code to)) (λ e. need (Within e Errors) & need (Has e Errors))
      & same_each (front_of (stack_at code to)) (stack_at code p)

  abbrev pub command_needs : Command → Needs
  command_needs (Do o) = does_needs o
  command_needs (GoTo to) = below_each (stack_at code p) (stack_at code to)
  command_needs (GoToIfNot to) = branch_needs to
  command_needs (OpenTrap to) = landing_needs to & below_each (stack_at code p) (stack_at code (p + 1))
  command_needs CloseTrap = below_each (stack_at code p) (stack_at code (p + 1))

  -- in the reach of a trap the stack begins below the trap's own
  abbrev pub trap_needs : Needs
  trap_needs = of_some (traps_at code u p) (λ traps. each (λ t. begins_below (stack_at code p) (stack_at code t)) traps)

  abbrev pub place_needs : Needs
  place_needs = of_some (command_at code p) command_needs & trap_needs

  -- ---- what is tested of numbers

  -- it goes on at a place of the unit that has these numbers of messages
  abbrev pub Reaches : ℕ → Option Tally → Type 0
  Reaches to tally = IsIn u to × (tally_at code to ≡ tally)

  pub record DoesPass (o : Operation) : Type 0 where
    pub kept : KeepsBelow code u station p (rest_of o (stack_at code p))
    pub unstarted : IsBeforeWorkers o (tally_at code p)
    pub next : (¬ (EndsFrame o)) → Reaches (p + 1) (tally_behind (workers_here code u station) o (tally_at code p))

  pub record BranchPasses (to : ℕ) : Type 0 where
    pub kept : KeepsBelow code u station p (front_of (stack_at code p))
    pub lands : LandsAt code u station p to
    pub next : Reaches (p + 1) (tally_at code p)
    pub other : Reaches to (tally_at code p)

  abbrev pub CommandPasses : Command → Type 0
  CommandPasses (Do o) = DoesPass o
  CommandPasses (GoTo to) = LandsAt code u station p to × Reaches to (tally_at code p)
  CommandPasses (GoToIfNot to) = BranchPasses to
  CommandPasses (OpenTrap to) = LandsAt code u station p to × HasTalliesOf code u station p to × Reaches (p + 1) (tally_at code p)
  CommandPasses CloseTrap = IsInTrap code u station p × Reaches (p + 1) (tally_at code p)

  pub record PlacePasses : Type 0 where
    pub command : IsSomeAnd (command_at code p) CommandPasses
    pub defined : All (IsDefined code.atoms) (stack_at code p)
