-- Whether what is made at a place can be called.
use Rattle.std.specs.Prelude.{◌≡◌, ◌↔◌, ℕ, Bool, Some, IsTrue}
use Rattle.stack_code.specs.declared.code.Code.{Code}
use Rattle.stack_code.specs.Commands.{Command, command_at}
use Rattle.needs_of_commands.specs.Askable.{MakesCallable}

-- whether what is made at the place can be called, where all that the instruction names in the tables is there
abbrev pub TellsMade : Code → ℕ → Bool → Type 0
TellsMade code p made = (command : Command) → command_at code p ≡ Some command → IsTrue made ↔ MakesCallable code p
