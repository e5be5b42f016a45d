-- Source files that are read one after another.
use Rattle.std.specs.Prelude.{◌≡◌, ◌<◌, ◌≤◌, ◌+◌, ◌++◌, ◌⊎◌, ⊤, ℕ, List, [], ◌∷◌, length, Option, IfSome, Result, Ok, Err}
use Rattle.bal_base.specs.declared.fault.Refusal.{Refusal}
use Rattle.bal_base.specs.declared.stop.Stop.{Stop}
use Rattle.bal_base.specs.declared.stop.Stop.TheVariants.{Fault, Memory}
use Rattle.bal_tree.specs.declared.package.SourceFile.{SourceFile}
use Rattle.folder_files.specs.Files.{Files}
use Rattle.source_files.specs.Files.{IsSource, IsUnread}
use Rattle.module_loader.specs.Faults.{too_large}
use Rattle.module_loader.specs.Files.{AreRead, Taken, total}
use Rattle.module_loader.specs.inner.Sources.{taken_in}
use Rattle.module_loader.specs.declared.faults.LoadFault.{LoadFault}
use Rattle.module_loader.specs.declared.faults.LoadFault.TheVariants.{Source}
use Rattle.module_loader.specs.declared.limits.TheConstants.{MOST_PACKAGE_BYTES}
use Rattle.module_loader.specs.declared.reading.Reading.{Reading}
use Rattle.module_loader.specs.declared.sources.Source.{Source as SourceOf}

-- files were read, of which this is known as far as the folder tells its files
pub record AreReadFrom (told : Option Files) (sources : List SourceOf) (read : List SourceFile) : Type 0 where
  pub taken : List Taken
  pub reads : AreRead 0 taken read
  pub small : total taken ≤ MOST_PACKAGE_BYTES
  pub are : IfSome told (λ files. taken ≡ taken_in files sources)

-- they were read of some files
abbrev pub AreSources : List SourceFile → Type 0
AreSources read = (taken : List Taken) × AreRead 0 taken read

-- one more file was read, with the name and the bytes
pub record Adds (old new : Reading) (name bytes : List ℕ) : Type 0 where
  pub file : SourceFile
  pub source : IsSource (length old.read.items) name bytes file
  pub read : new.read.items ≡ old.read.items ++ file ∷ []
  pub size : new.bytes ≡ old.bytes + length bytes

-- the file comes to no tree, and nothing was added
abbrev pub IsUnreadNext : Reading → Reading → List ℕ → List ℕ → Refusal → Type 0
IsUnreadNext old new name bytes r = (new.read.items ≡ old.read.items) × IsUnread (length old.read.items) name bytes r

-- it was added, and the files are too long together
abbrev pub IsTooMuch : Reading → Reading → List ℕ → List ℕ → Refusal → Type 0
IsTooMuch old new name bytes r = Adds old new name bytes × (MOST_PACKAGE_BYTES < new.bytes) × (r ≡ too_large new.bytes)

-- a file of so many bytes was put behind those so far, which may have come to be too long together
abbrev pub IsBehind : Reading → Reading → SourceFile → ℕ → Type 0
IsBehind old new file size = (new.read.items ≡ old.read.items ++ file ∷ []) × (new.bytes ≡ old.bytes + size)

abbrev pub IsPut : Reading → Reading → SourceFile → ℕ → {A : Type 0} → Result A (Stop Refusal) → Type 0
IsPut old new file size (Ok x) = IsBehind old new file size × (new.bytes ≤ MOST_PACKAGE_BYTES)
IsPut old new file size (Err Memory) = ⊤
IsPut old new file size (Err (Fault r)) = IsBehind old new file size × (MOST_PACKAGE_BYTES < new.bytes) × (r ≡ too_large new.bytes)

-- a stop by this refusal, if there was memory for it
abbrev pub IsStopAt : Refusal → Stop Refusal → Type 0
IsStopAt r Memory = ⊤
IsStopAt r (Fault found) = found ≡ r

-- what comes of one more file
abbrev pub IsNext : Reading → Reading → List ℕ → List ℕ → {A : Type 0} → Result A (Stop Refusal) → Type 0
IsNext old new name bytes (Ok x) = Adds old new name bytes × (new.bytes ≤ MOST_PACKAGE_BYTES)
IsNext old new name bytes (Err Memory) = ⊤
IsNext old new name bytes (Err (Fault r)) = IsUnreadNext old new name bytes r ⊎ IsTooMuch old new name bytes r

-- a stop by a refusal, with these files
abbrev pub IsWithFiles : Stop Refusal → List SourceFile → Stop LoadFault → Type 0
IsWithFiles Memory read stop = stop ≡ Memory
IsWithFiles (Fault r) read stop = stop ≡ Fault (Source r read)
