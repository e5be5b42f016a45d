-- The package of a folder, as far as it tells its files, or why they make none.
use Rattle.std.specs.Prelude.{◌≡◌, ⊤, ℕ, List, [], IfSome, Option, Some, None, Result, Ok, Err}
use Rattle.bal_base.specs.declared.fault.Refusal.{Refusal}
use Rattle.bal_base.specs.declared.stop.Stop.{Stop}
use Rattle.bal_base.specs.declared.stop.Stop.TheVariants.{Memory, Fault}
use Rattle.bal_io.specs.Faults.{Rises}
use Rattle.bal_tree.specs.declared.package.Module.{Module}
use Rattle.bal_tree.specs.declared.package.Package.{Package}
use Rattle.bal_tree.specs.declared.package.SourceFile.{SourceFile}
use Rattle.module_loader.specs.Faults.{IsRefusedFor}
use Rattle.module_loader.specs.Packages.{PackageOf}
use Rattle.module_loader.specs.declared.faults.LoadFault.{LoadFault}
use Rattle.module_loader.specs.declared.faults.LoadFault.TheVariants as load
use Rattle.status_texts.specs.Outside.{Files}
use Rattle.folder_programs.specs.declared.packages.AnswerFault.{AnswerFault}
use Rattle.folder_programs.specs.declared.packages.AnswerFault.TheVariants.{Folder, Source}

-- the files make this package, and so they aren't refused
pub record IsMade (files : Files) (whole : Package) : Type 0 where
  pub is : PackageOf files whole
  pub sound : (r : Refusal) (read : List SourceFile) → IsRefusedFor files r read → ⊥

-- they make none, and are refused for the one cause that they have
pub record IsUnmade (files : Files) (r : Refusal) : Type 0 where
  pub read : List SourceFile
  pub has : IsRefusedFor files r read
  pub only : (other : Refusal) (before : List SourceFile) → IsRefusedFor files other before → other ≡ r
  pub none : (whole : Package) → PackageOf files whole → ⊥

-- ---- the folder, as far as it tells its files

-- they make this package
abbrev pub IsPackageOf : Option Files → Package → Type 0
IsPackageOf folder whole = IfSome folder (λ files. IsMade files whole)

-- they make none, and are refused so
abbrev pub HasNoPackage : Option Files → Refusal → Type 0
HasNoPackage folder r = IfSome folder (λ files. IsUnmade files r)

-- the modules of a package, where there is one
abbrev pub source_modules : Option Package → List Module
source_modules None = []
source_modules (Some whole) = whole.modules

-- ---- the steps

-- the count of faults rose exactly where the folder failed
abbrev pub CountsFolderFaults : {A : Type 0} → ℕ → ℕ → Result A (Stop AnswerFault) → Type 0
CountsFolderFaults old new (Ok a) = new ≡ old
CountsFolderFaults old new (Err Memory) = new ≡ old
CountsFolderFaults old new (Err (Fault Folder)) = Rises old new
CountsFolderFaults old new (Err (Fault (Source r))) = new ≡ old

-- the package, or the refusal
abbrev pub IsLoadedOf : Option Files → Result Package (Stop AnswerFault) → Type 0
IsLoadedOf folder (Ok whole) = IsPackageOf folder whole
IsLoadedOf folder (Err Memory) = ⊤
IsLoadedOf folder (Err (Fault Folder)) = ⊤
IsLoadedOf folder (Err (Fault (Source r))) = HasNoPackage folder r

-- a stop without the files that were read by then
abbrev pub IsWithoutFiles : Stop LoadFault → Stop AnswerFault → Type 0
IsWithoutFiles Memory stop = stop ≡ Memory
IsWithoutFiles (Fault load.Folder) stop = stop ≡ Fault Folder
IsWithoutFiles (Fault (load.Source r read)) stop = stop ≡ Fault (Source r)
