-- The text of a package's pairs: for each pair of each function a line `FUNCTION SENDER LINE:COLUMN -> RECEIVER LINE:COLUMN`.
use Rattle.std.specs.Prelude.{◌++◌, ◌==◌, ◌-◌, ℕ, List, [], Option, Some, None, codes, encode_utf8_all, flat_map, if◌then◌else◌, slice_get, zip}
use Rattle.bal_base.specs.declared.fault.Event.{Event}
use Rattle.bal_base.specs.declared.place.Place.{Place}
use Rattle.bal_report.specs.EventText.{position_at}
use Rattle.bal_tree.specs.Files.{file_in}
use Rattle.bal_tree.specs.declared.package.Module.{Module}
use Rattle.bal_tree.specs.declared.package.SourceFile.{SourceFile}
use Rattle.package_files.specs.Names.{is_empty, module_of}
use Rattle.typed_tree.specs.declared.event.Pair.{Pair}
use Rattle.typed_tree.specs.declared.event.Plan.{Plan}
use Rattle.typed_tree.specs.declared.package.TypedPackage.{TypedPackage}
use Rattle.typed_tree.specs.declared.unit.TypedBody.{TypedBody}
use Rattle.typed_tree.specs.declared.unit.TypedBody.TheVariants.{Block, Expr}
use Rattle.typed_tree.specs.declared.unit.TypedFunction.{TypedFunction}
use Rattle.typed_tree.specs.declared.unit.TypedWorker.{TypedWorker}

-- ---- functions

-- a module and a colon; the default module, which has no characters, isn't written
abbrev pub module_text : List ℕ → List ℕ
module_text name = if is_empty name then [] else name ++ codes ":"

-- that of a file's module
abbrev pub module_in : Option (List ℕ) → List ℕ
module_in (Some name) = module_text name
module_in None = []

abbrev pub module_at : Option SourceFile → List ℕ
module_at (Some file) = module_in (module_of file.name)
module_at None = []

-- `FUNCTION`, outside the default module `MODULE:FUNCTION`, where the modules are those of the package
abbrev pub function_name : List Module → TypedFunction → List ℕ
function_name modules f = module_at (file_in f.at.file modules) ++ f.name

-- ---- workers

abbrev pub workers_of : TypedBody → List TypedWorker
workers_of (Block initial workers rest ends close) = workers.items
workers_of (Expr value) = []

abbrev pub name_of : Option TypedWorker → List ℕ
name_of (Some w) = w.name
name_of None = []

-- the name of a worker by its number, where the default worker is number 0
abbrev pub worker_name : List TypedWorker → ℕ → List ℕ
worker_name workers number = if number == 0 then codes "function" else name_of (slice_get workers (number - 1))

-- ---- pairs

-- `LINE:COLUMN`
abbrev pub place_in : Option SourceFile → ℕ → List ℕ
place_in (Some file) at = position_at (encode_utf8_all file.text) at
place_in None at = []

abbrev pub place_text : List Module → Place → List ℕ
place_text modules at = place_in (file_in at.file modules) at.at

-- `WORKER LINE:COLUMN`
abbrev pub event_text : List Module → List TypedWorker → Event → List ℕ
event_text modules workers e = worker_name workers e.worker ++ codes " " ++ place_text modules e.at

-- the line of a pair of the function with this name and these workers
abbrev pub pair_text : List Module → List ℕ → List TypedWorker → Pair → List ℕ
pair_text modules name workers pair =
    name ++ codes " " ++ event_text modules workers pair.send ++ codes " -> " ++ event_text modules workers pair.receive ++ codes "\n"

-- ---- packages

-- the lines of a function and its plan
abbrev pub function_text : List Module → TypedFunction × Plan → List ℕ
function_text modules f = flat_map (pair_text modules (function_name modules f.0) (workers_of f.0.body)) f.1.pairs

-- The functions of a package stand in text order, and so do the pairs of a plan, by their sends.
abbrev pub pairs_text : TypedPackage → List Plan → List Module → List ℕ
pairs_text p plans modules = flat_map (function_text modules) (zip p.functions.items plans)
