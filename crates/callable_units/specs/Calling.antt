-- Which units of a code can be called as values, as a table.
use Rattle.std.specs.Prelude.{◌↔◌, ℕ, Bool, false, List, IsTrue, get_or}
use Rattle.stack_code.specs.declared.code.Code.{Code}
use Rattle.stack_code.specs.Tables.{IsCallable}

-- a row for each unit: whether function values and futures of it can be called; a number that is no unit has no row, and can't be
abbrev pub TellsCallable : Code → List Bool → Type 0
TellsCallable code rows = (n : ℕ) → IsTrue (get_or rows n false) ↔ IsCallable code n
