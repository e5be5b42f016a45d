-- A table of the names of a package.
use Rattle.std.specs.Prelude.{◌≡◌, ◌==◌, ◌&&◌, ℕ, Bool, List, Option}
use Rattle.std.specs.HashMap.{HashMap, get_by}
use Rattle.bal_base.specs.declared.text.Name.{Name}
use Rattle.type_model.specs.Places.{is_same_text}
use Rattle.name_resolution.specs.declared.outlines.Outline.{Outline}
use Rattle.name_resolution.specs.declared.table.Key.{Key}
use Rattle.name_resolution.specs.Resolved.{first_defined}

abbrev pub is_key : ℕ → Name → Key → Bool
is_key m name k = (m == k.«module») && is_same_text name k.name

-- the number under a name in a module
abbrev pub number_in : {S : Type 0} → HashMap Key ℕ S → ℕ → Name → Option ℕ
number_in numbers m name = get_by (is_key m name) numbers

-- each name that a module defines has the number of its first definition
abbrev pub IsTableOf : {S : Type 0} → List Outline → HashMap Key ℕ S → Type 0
IsTableOf outlines numbers = (m : ℕ) (name : Name) → number_in numbers m name ≡ first_defined outlines m name
