-- How many functions are defined, counted on from a number.
use Rattle.std.specs.Prelude.{◌+◌, ℕ, List, fold}
use Rattle.bal_tree.specs.declared.def.Def.{Def}
use Rattle.bal_tree.specs.declared.package.Module.{Module}
use Rattle.bal_tree.specs.declared.package.SourceFile.{SourceFile}
use Rattle.name_resolution.specs.Definitions.{functions_in}

abbrev pub with_def : ℕ → Def → ℕ
with_def n d = n + functions_in d

abbrev pub with_defs : ℕ → List Def → ℕ
with_defs start defs = fold with_def start defs

abbrev pub with_file : ℕ → SourceFile → ℕ
with_file n f = with_defs n f.tree.defs.items

abbrev pub with_files : ℕ → List SourceFile → ℕ
with_files start files = fold with_file start files

abbrev pub with_module : ℕ → Module → ℕ
with_module n m = with_files n m.files

abbrev pub with_modules : ℕ → List Module → ℕ
with_modules start modules = fold with_module start modules
