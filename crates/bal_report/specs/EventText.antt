-- The text of an event of a worker: `WORKER LINE:COLUMN`.
use Rattle.std.specs.Prelude.{◌++◌, ◌==◌, ◌||◌, ◌&&◌, ◌-◌, ℕ, Bool, false, List, [], Option, Some, None, chars, codes, decimal, encode_utf8_all, find, if◌then◌else◌, length, nat_le, nat_lt, reverse, slice_get, slice_index, take}
use Rattle.bal_base.specs.declared.fault.Event.{Event}
use Rattle.bal_base.specs.Place.{line_after, column_after}
use Rattle.bal_tree.specs.declared.def.Body.{Body}
use Rattle.bal_tree.specs.declared.def.Body.TheVariants.{Block, Expr}
use Rattle.bal_tree.specs.declared.def.Def.{Def}
use Rattle.bal_tree.specs.declared.def.Def.TheVariants.{«Type» as TypeDefinition, Const, Variable, Function}
use Rattle.bal_tree.specs.declared.def.Worker.{Worker}
use Rattle.bal_tree.specs.Files.{file_in}
use Rattle.bal_tree.specs.declared.package.Module.{Module}
use Rattle.bal_tree.specs.declared.package.SourceFile.{SourceFile}
use Rattle.text_forms.specs.Forms.{text_if}

-- ---- places

-- a character begins there, or the text ends
abbrev pub begins : List ℕ → ℕ → Bool
begins bytes at = at == length bytes || (nat_lt at (length bytes) && (nat_lt (slice_index bytes at) 128 || nat_le 192 (slice_index bytes at)))

abbrev pub position : List ℕ → List ℕ
position before = decimal (line_after before) ++ codes ":" ++ decimal (column_after before)

-- `LINE:COLUMN` of a place in a text with these bytes
abbrev pub position_at : List ℕ → ℕ → List ℕ
position_at bytes at = text_if (begins bytes at && nat_lt at 4294967295) (position (chars (take at bytes)))

-- ---- workers

-- a function begins at the place or before it
abbrev pub begins_by : ℕ → Def → Bool
begins_by at (TypeDefinition d) = false
begins_by at (Const d) = false
begins_by at (Variable d) = false
begins_by at (Function f) = nat_le f.at.at at

-- the last function that begins at the place or before it is the one that the place stands in
abbrev pub definition_around : List Def → ℕ → Option Def
definition_around defs at = find (begins_by at) (reverse defs)

abbrev pub workers_of_body : Body → List Worker
workers_of_body (Block stmts workers rest close at) = workers.items
workers_of_body (Expr value at) = []

abbrev pub workers_in : Option Def → List Worker
workers_in None = []
workers_in (Some (TypeDefinition d)) = []
workers_in (Some (Const d)) = []
workers_in (Some (Variable d)) = []
workers_in (Some (Function f)) = workers_of_body f.body

abbrev pub name_of : Option Worker → List ℕ
name_of None = []
name_of (Some w) = w.name.name

-- the name of a worker by its number, where the default worker is number 0
abbrev pub worker_name : List Worker → ℕ → List ℕ
worker_name workers number = if number == 0 then codes "function" else name_of (slice_get workers (number - 1))

-- ---- events

abbrev pub event_in : Event → Option SourceFile → List ℕ
event_in e None = worker_name [] e.worker ++ codes " "
event_in e (Some file) =
    worker_name (workers_in (definition_around file.tree.defs.items e.at.at)) e.worker ++ codes " " ++ position_at (encode_utf8_all file.text) e.at.at

-- the text of an event in a file of these modules
abbrev pub event_text : List Module → Event → List ℕ
event_text modules e = event_in e (file_in e.at.file modules)
