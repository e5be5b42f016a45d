-- What a test of the numbers of a place tells.
use Rattle.std.specs.Prelude.{◌≡◌, ◌↔◌, ℕ, Bool, Some, IsTrue}
use Rattle.stack_code.specs.declared.code.Code.{Code}
use Rattle.stack_code.specs.declared.code.Unit.{Unit as CodeUnit}
use Rattle.stack_code.specs.Commands.{Command, command_at}
use Rattle.stack_code.specs.Places.{Station}
use Rattle.code_needs.specs.PlaceNeeds.{CommandPasses}

-- whether the tests of numbers pass of what the instruction does there, where all that it names in the tables is there
abbrev pub TellsNumbers : Code → CodeUnit → Station → ℕ → Bool → Type 0
TellsNumbers code u station p passes = (command : Command) → command_at code p ≡ Some command → IsTrue passes ↔ CommandPasses code u station p command
