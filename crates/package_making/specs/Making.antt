-- The modules of a package, put together in an order.
use Rattle.std.specs.Prelude.{ℕ, suc, nat_eq, List, [], ◌∷◌, map, filter, get_or, position, unwrap_or}
use Rattle.bal_tree.specs.declared.package.Module.{Module}
use Rattle.bal_tree.specs.declared.package.SourceFile.{SourceFile}

-- the place of a module in the order, which is its number in the package
abbrev pub rank : List ℕ → ℕ → ℕ
rank order number = unwrap_or (position (λ j. nat_eq j number) order) 0

-- the numbers that follow one
abbrev pub followers : List (List ℕ) → ℕ → List ℕ
followers next number = get_or next number []

-- files, each with the number of its module: that of the first file has this place among the numbers
abbrev pub numbered : List ℕ → ℕ → List SourceFile → List (ℕ × SourceFile)
numbered numbers place [] = []
numbered numbers place (file ∷ files) = (get_or numbers place 0, file) ∷ numbered numbers (suc place) files

-- the files of the module at a place of the order
abbrev pub files_at : List ℕ → List (ℕ × SourceFile) → ℕ → List SourceFile
files_at order files place = map (λ f. f.1) (filter (λ f. nat_eq (rank order f.0) place) files)

-- the module with this number and these files
abbrev pub module_of : List (List ℕ) → List (List ℕ) → List ℕ → ℕ → List SourceFile → Module
module_of names next order number files = record { name = get_or names number []; imports = map (rank order) (followers next number); files = files }

-- the modules with these numbers, of which the first stands at this place of the order
abbrev pub modules_from : List (List ℕ) → List (List ℕ) → List ℕ → List (ℕ × SourceFile) → ℕ → List ℕ → List Module
modules_from names next order files place [] = []
modules_from names next order files place (number ∷ numbers) =
    module_of names next order number (files_at order files place) ∷ modules_from names next order files (suc place) numbers
