-- What an operation needs at a place, and what does none.
use Rattle.std.specs.Prelude.{◌≡◌, ℕ, List, [], Option, Some, None}
use Rattle.type_model.specs.declared.basic.SemType.{SemType}
use Rattle.operations.specs.declared.operation.Operation.{Operation}
use Rattle.stack_code.specs.declared.code.StackMap.{StackMap}
use Rattle.stack_code.specs.Commands.{Command, Do, GoTo, GoToIfNot, OpenTrap, CloseTrap}
use Rattle.code_needs.specs.Combining.{Needs}
use Rattle.code_needs.specs.PlaceNeeds.{does_needs}
use Rattle.code_needs.specs.Stacks.{operands_of, rest_of, result_of, stay_of}
use Rattle.needs_of_places.specs.declared.site.Site.{Site}
use Rattle.needs_of_places.specs.Sites.{station_of}

abbrev pub stack_of : Option StackMap → List SemType
stack_of (Some m) = m.stack
stack_of None = []

abbrev pub doing : Site → ℕ → Option Command → Needs
doing site p (Some (Do o)) = does_needs site.code.now site.unit.now (station_of site) p o
doing site p (Some (GoTo to)) = None
doing site p (Some (GoToIfNot to)) = None
doing site p (Some (OpenTrap to)) = None
doing site p (Some CloseTrap) = None
doing site p None = None

-- the operands of an operation, and what stays below them
abbrev pub AreBefore : Operation → List SemType → List SemType → List SemType → Type 0
AreBefore o stack rest operands = (rest ≡ rest_of o stack) × (operands ≡ operands_of o stack)

-- the result on the next stack, and what stands there below it
abbrev pub AreBehind : Operation → List SemType → List SemType → Option SemType → Type 0
AreBehind o stack stay given = (stay ≡ stay_of o stack) × (given ≡ result_of o stack)
