-- Which files of a folder are source files, by their names, and of which module. Names are their code points.
use Rattle.std.specs.Prelude.{ℕ, Bool, true, false, not, ◌==◌, ◌&&◌, if◌then◌else◌, nat_eq, List, [], ◌∷◌, ◌+◌, drop, take, position, codes, Option, Some, None, option_and_then}
use Rattle.std.specs.List.{ends_with, list_any, starts_with}

abbrev pub is_slash : ℕ → Bool
is_slash c = c == 47

-- `X.bal`, where X has no slash
abbrev pub is_plain : List ℕ → Bool
is_plain name = ends_with nat_eq name (codes ".bal") && not (list_any is_slash name)

abbrev pub is_empty : List ℕ → Bool
is_empty [] = true
is_empty (c ∷ cs) = false

-- the folder before this place, where a slash stands, if a source file is behind it and the folder has a name
abbrev pub folder_at : List ℕ → ℕ → Option (List ℕ)
folder_at rest slash = if is_plain (drop (slash + 1) rest) && not (is_empty (take slash rest)) then Some (take slash rest) else None

-- of what stands behind `modules/`: `M/X.bal` is a file of the module M, which has a name without a slash
abbrev pub module_below : List ℕ → Option (List ℕ)
module_below rest = option_and_then (folder_at rest) (position is_slash rest)

-- The module of the file with this name: `X.bal` is one of the default module, which is written as no characters,
-- `modules/M/X.bal` one of the module M; other files are none of a module.
abbrev pub module_of : List ℕ → Option (List ℕ)
module_of name = if is_plain name then Some [] else if starts_with nat_eq name (codes "modules/") then module_below (drop 8 name) else None
