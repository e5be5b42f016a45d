-- What imports name in a package that is put together. A module's number is here its place in the package.
use Rattle.std.specs.Prelude.{◌≡◌, ℕ, suc, nat_eq, Bool, false, if◌then◌else◌, List, [], ◌∷◌, position, Option, Some, None, option_map, slice_get}
use Rattle.bal_tree.specs.declared.def.Import.{Import}
use Rattle.bal_tree.specs.declared.package.Module.{Module as ModuleOf}
use Rattle.bal_tree.specs.declared.package.Package.{Package}
use Rattle.package_imports.specs.Imports.{Home, is_library, is_own_org, is_same, org_of, path_of, path_to, target_of}
use Rattle.package_imports.specs.declared.targets.Target.{Target}
use Rattle.package_imports.specs.declared.targets.Target.TheVariants.{Library, Module}

-- a package as its imports name its modules: its organisation, and by number the name by which each module is imported; none is that of
-- the default one, which can't be named
pub record Linked : Type 0 where
  pub org : Option (List ℕ)
  pub paths : List (Option (List ℕ))

-- ---- the package

-- the name by which the module with this number is imported
abbrev pub path_in : Package → ℕ → ModuleOf → Option (List ℕ)
path_in p number m = if nat_eq number p.main then None else Some (path_to p.name m.name)

-- those of these modules, of which the first has this number
abbrev pub paths_from : Package → ℕ → List ModuleOf → List (Option (List ℕ))
paths_from p number [] = []
paths_from p number (m ∷ modules) = path_in p number m ∷ paths_from p (suc number) modules

abbrev pub linked : Package → Linked
linked p = record { org = p.org; paths = paths_from p 0 p.modules }

-- ---- what an import names

-- a module is imported by this name
abbrev pub is_path : List ℕ → Option (List ℕ) → Bool
is_path path None = false
is_path path (Some known) = is_same known path

-- the module of the package
abbrev pub module_named : Linked → Import → Option ℕ
module_named home i = if is_own_org home.org (org_of i) then position (is_path (path_of i)) home.paths else None

-- the library, a module of the package, or nothing
abbrev pub target_named : Linked → Import → Option Target
target_named home i = if is_library i then Some Library else option_map Module (module_named home i)

abbrev pub target_in : Package → Import → Option Target
target_in p = target_named (linked p)

-- ---- modules with other numbers

-- the same target, where modules have these numbers
abbrev pub moved : (ℕ → ℕ) → Target → Target
moved to Library = Library
moved to (Module number) = Module (to number)

-- The package has the modules of the home, and these are the numbers that they have in it: each module behind the default one stands under
-- its number, no other module has a path, and no two have the same.
pub record IsMadeOf (home : Home) (to : ℕ → ℕ) (p : Package) : Type 0 where
  pub org : p.org ≡ home.org
  pub there : (place : ℕ) (path : List ℕ) → slice_get home.paths place ≡ Some path → slice_get (linked p).paths (to (suc place)) ≡ Some (Some path)
  pub only : (number : ℕ) (path : List ℕ) → slice_get (linked p).paths number ≡ Some (Some path)
      → (place : ℕ) × (slice_get home.paths place ≡ Some path) × (to (suc place) ≡ number)
  pub apart : (a b : ℕ) (path : List ℕ) → slice_get home.paths a ≡ Some path → slice_get home.paths b ≡ Some path → a ≡ b

-- an import names in the package the module that it names of the home
abbrev pub KeepsTargets : Type 0
KeepsTargets = (home : Home) (to : ℕ → ℕ) (p : Package) → IsMadeOf home to p → (i : Import) → target_in p i ≡ option_map (moved to) (target_of home i)
