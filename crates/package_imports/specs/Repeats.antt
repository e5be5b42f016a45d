-- Two imports of one file with one prefix.
use Rattle.std.specs.Prelude.{ℕ, if◌then◌else◌, List, [], ◌∷◌, ◌++◌, Option, Some, None}
use Rattle.std.specs.List.{list_any}
use Rattle.bal_base.specs.declared.place.Place.{Place}
use Rattle.bal_tree.specs.declared.def.Import.{Import}
use Rattle.package_imports.specs.Imports.{is_same, prefix_of}

-- the place of the first import whose prefix is one of these or that of an import before it
abbrev pub first_repeat : List (List ℕ) → List Import → Option Place
first_repeat before [] = None
first_repeat before (i ∷ imports) = if list_any (is_same (prefix_of i)) before then Some i.at else first_repeat (before ++ prefix_of i ∷ []) imports
