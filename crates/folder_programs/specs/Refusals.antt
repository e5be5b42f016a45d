-- How the faults of a program are told, and those that have no place.
use Rattle.std.specs.Prelude.{ℕ, List, Option, Some, None, encode_utf8_all}
use Rattle.bal_base.specs.declared.fault.Fault.{Fault}
use Rattle.bal_base.specs.declared.fault.FaultCode.{FaultCode}
use Rattle.bal_base.specs.declared.fault.FaultCode.TheVariants.{CodeLimit, NoMain}
use Rattle.bal_base.specs.declared.fault.Kept.TheVariants.{Count, Nothing}
use Rattle.bal_base.specs.declared.fault.Refusal.{Refusal}
use Rattle.bal_base.specs.declared.place.Place.{Place}
use Rattle.bal_tree.specs.Files.{file_in}
use Rattle.bal_tree.specs.declared.package.Module.{Module}
use Rattle.bal_tree.specs.declared.package.SourceFile.{SourceFile}
use Rattle.type_questions.specs.Refusals.{placed_in, source, unplaced}

-- ---- without a place

-- the fault with this code
abbrev pub fault_of : FaultCode → Fault
fault_of code = record { code = code; at = None; kept = Nothing }

-- the fault of a program with so many nodes
abbrev pub large_fault : ℕ → Fault
large_fault count = record { code = CodeLimit; at = None; kept = Count count }

-- the default module has no public function `main`
abbrev pub no_main : Refusal
no_main = unplaced (fault_of NoMain)

-- ---- in the files of a package

-- a fault at this byte of the file
abbrev pub told_in : Fault → ℕ → Option SourceFile → Refusal
told_in fault at None = unplaced fault
told_in fault at (Some file) = placed_in fault at (Some (source file.name (encode_utf8_all file.text)))

abbrev pub told_at : List Module → Fault → Option Place → Refusal
told_at modules fault None = unplaced fault
told_at modules fault (Some place) = told_in fault place.at (file_in place.file modules)

-- The refusal for a fault of these modules: its place is told in the file that has the place's number.
abbrev pub refusal_in : List Module → Fault → Refusal
refusal_in modules fault = told_at modules fault fault.at
