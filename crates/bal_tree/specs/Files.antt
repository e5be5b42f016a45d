-- The source file that places name.
use Rattle.std.specs.Prelude.{ℕ, Bool, List, [], ◌∷◌, Option, None, find, nat_eq}
use Rattle.std.specs.Option.{option_or}
use Rattle.bal_tree.specs.declared.package.Module.{Module}
use Rattle.bal_tree.specs.declared.package.SourceFile.{SourceFile}

-- the file has this number, as its places do
abbrev pub is_numbered : ℕ → SourceFile → Bool
is_numbered number file = nat_eq file.tree.at.file number

-- the first of these files that has it
abbrev pub file_numbered : ℕ → List SourceFile → Option SourceFile
file_numbered number files = find (is_numbered number) files

-- the first file of these modules that has it
abbrev pub file_in : ℕ → List Module → Option SourceFile
file_in number [] = None
file_in number (m ∷ modules) = option_or (file_numbered number m.files) (file_in number modules)
