-- The package of a folder's files: its name and its organisation, its modules in order, each with its files and what it imports.
use Rattle.std.specs.Prelude.{◌≡◌, ◌≤◌, ◌==◌, ℕ, zero, suc, if◌then◌else◌, List, [], ◌∷◌, ◌++◌, map, length, slice_get, position, unwrap_or, Option, Some, None}
use Rattle.bal_base.specs.declared.place.Place.{Place}
use Rattle.bal_tree.specs.declared.package.Package.{Package}
use Rattle.bal_tree.specs.declared.package.SourceFile.{SourceFile}
use Rattle.graphs.specs.Cycles.{IsOnCycle}
use Rattle.manifests.specs.declared.reading.Manifest.{Manifest}
use Rattle.package_files.specs.Names.{is_empty}
use Rattle.package_making.specs.Making.{modules_from, numbered}
use Rattle.package_modules.specs.Modules.{AreModules}
use Rattle.package_imports.specs.Imports.{Home, first_unknown, imported, is_same, path_to}
use Rattle.package_imports.specs.Order.{IsModuleOrder}
use Rattle.package_imports.specs.Repeats.{first_repeat}
use Rattle.folder_files.specs.Files.{Files}
use Rattle.module_loader.specs.Files.{AreAllRead, Taken}
use Rattle.module_loader.specs.declared.limits.TheConstants.{MOST_MODULES}

-- ---- modules

-- the modules of source files, which are written as folders
abbrev pub folders_of : List Taken → List (List ℕ)
folders_of taken = map (λ (t : Taken). t.folder) taken

-- the number of a module, which is its place among all of them
abbrev pub number_of : List (List ℕ) → List ℕ → ℕ
number_of folders folder = unwrap_or (position (λ known. is_same known folder) folders) 0

-- the numbers of the modules of the source files
abbrev pub numbers_of : List (List ℕ) → List Taken → List ℕ
numbers_of folders taken = map (number_of folders) (folders_of taken)

-- the name that a module has in the package: the default one has the package's
abbrev pub module_name : Manifest → List ℕ → List ℕ
module_name manifest folder = if is_empty folder then manifest.name else folder

abbrev pub names_of : Manifest → List (List ℕ) → List (List ℕ)
names_of manifest folders = map (module_name manifest) folders

-- ---- imports

-- all of them but the first, which is the default one
abbrev pub behind_first : List (List ℕ) → List (List ℕ)
behind_first [] = []
behind_first (folder ∷ folders) = folders

-- the package as imports name its modules
abbrev pub home_of : Manifest → List (List ℕ) → Home
home_of manifest folders = record { org = manifest.org; paths = map (path_to manifest.name) (behind_first folders) }

-- what the files of a module import, file by file; each file comes with the number of its module
abbrev pub imports_of : Home → List (ℕ × SourceFile) → ℕ → List ℕ
imports_of home [] number = []
imports_of home (f ∷ files) number = (if f.0 == number then imported home f.1.tree.imports.items else []) ++ imports_of home files number

-- by module, from this number on, which modules it imports
abbrev pub graph_from : Home → List (ℕ × SourceFile) → ℕ → ℕ → List (List ℕ)
graph_from home files number zero = []
graph_from home files number (suc count) = imports_of home files number ∷ graph_from home files (suc number) count

-- the source files that were read, each with the number of its module
abbrev pub placed : List (List ℕ) → List Taken → List SourceFile → List (ℕ × SourceFile)
placed folders taken read = numbered (numbers_of folders taken) 0 read

abbrev pub graph_of : Manifest → List (List ℕ) → List Taken → List SourceFile → List (List ℕ)
graph_of manifest folders taken read = graph_from (home_of manifest folders) (placed folders taken read) 0 (length folders)

-- ---- imports that are refused

-- the first of several files in which there is such a place
abbrev pub first_or : Option Place → Option Place → Option Place
first_or (Some at) other = Some at
first_or None other = other

abbrev pub first_place : (SourceFile → Option Place) → List SourceFile → Option Place
first_place place_in [] = None
first_place place_in (file ∷ files) = first_or (place_in file) (first_place place_in files)

-- the first import of a file whose prefix an import before it has
abbrev pub repeat_in : SourceFile → Option Place
repeat_in file = first_repeat [] file.tree.imports.items

-- the first import of a file that names nothing
abbrev pub unknown_in : Home → SourceFile → Option Place
unknown_in home file = first_unknown home file.tree.imports.items

-- ---- the package

-- The package that source files make which were read.
pub record Makes (manifest : Manifest) (taken : List Taken) (read : List SourceFile) («package» : Package) : Type 0 where
  -- its modules, by their names, the default one first
  pub folders : List (List ℕ)
  pub modules : AreModules (folders_of taken) folders
  pub few : length folders ≤ MOST_MODULES
  -- no import is refused
  pub unrepeated : first_place repeat_in read ≡ None
  pub known : first_place (unknown_in (home_of manifest folders)) read ≡ None
  pub acyclic : (i : ℕ) → ¬ IsOnCycle (graph_of manifest folders taken read) i
  -- and so they stand in order
  pub order : List ℕ
  pub ordered : IsModuleOrder (graph_of manifest folders taken read) order
  pub name : «package».name ≡ manifest.name
  pub org : «package».org ≡ manifest.org
  pub made : «package».modules ≡ modules_from (names_of manifest folders) (graph_of manifest folders taken read) order (placed folders taken read) 0 order
  pub main : slice_get order «package».main ≡ Some 0

-- The package that the files of a folder make.
pub record PackageOf (files : Files) («package» : Package) : Type 0 where
  pub taken : List Taken
  pub manifest : Manifest
  pub read : List SourceFile
  pub are : AreAllRead files taken manifest read
  pub makes : Makes manifest taken read «package»
