-- What a call of the library comes to, as it is held.
use Rattle.std.specs.Prelude.{ℕ, List, Option, Some, None, Result, Ok, Err}
use Rattle.bal_base.specs.declared.stop.Memory.{Memory}
use Rattle.operations.specs.declared.library.LibraryCall.{LibraryCall}
use Rattle.value_model.specs.declared.value.Value.{Value}
use Rattle.value_model.specs.Stands.{OwnTypes}
use Rattle.op_model.specs.ProgramFacts.{own_types}
use Rattle.op_model.specs.Library.{LibraryComes}
use Rattle.plain_run.specs.declared.facts.ProgramFacts.{ProgramFacts}
use Rattle.plain_run.specs.declared.held.World.{World}
use Rattle.plain_run.specs.declared.world.Came.{Came}
use Rattle.plain_run.specs.ProgramFacts.{facts_of}
use Rattle.plain_run.specs.Held.{world_of}
use Rattle.plain_structures.specs.declared.answer.Tried.{Tried}
use Rattle.plain_structures.specs.declared.answer.Tried.TheVariants as tried
use Rattle.plain_structures.specs.Rows.{IsRowOf, IsTried}
use Rattle.plain_library.specs.Causes.{IsCallBeyond}

-- what came is what the call comes to with this atom, whatever types there are; or it comes to nothing on these operands
abbrev pub IsMade : LibraryCall → ℕ → List Value → World → World → Option Came → Type 0
IsMade call atom vs old new came = (own : OwnTypes) → IsRowOf (LibraryComes own call atom vs (world_of old)) new came

-- the same of a call that makes no list, whatever atom it names
abbrev pub IsCalled : LibraryCall → List Value → World → World → Option Came → Type 0
IsCalled call vs old new came = (atom : ℕ) → IsMade call atom vs old new came

-- what came, as what was tried
abbrev pub as_tried : Option Came → Tried
as_tried (Some came) = tried.Came came
as_tried None = tried.Stuck

abbrev pub all_tried : Result (Option Came) Memory → Result Tried Memory
all_tried (Ok came) = Ok (as_tried came)
all_tried (Err e) = Err e

-- what was tried is what the call comes to with the types of this program; or it comes to nothing on these operands, or that is
-- not told
abbrev pub IsLibrary : ProgramFacts → LibraryCall → ℕ → List Value → World → World → Tried → Type 0
IsLibrary facts call atom vs old new done =
    IsTried (LibraryComes (own_types (facts_of facts)) call atom vs (world_of old)) (IsCallBeyond facts call old vs) new done
