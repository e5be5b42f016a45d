-- The source files of a folder as a package reads them.
use Rattle.std.specs.Prelude.{◌≡◌, ◌≤◌, ◌⊎◌, ℕ, suc, List, [], ◌∷◌, map, sum, length, All, Contains, Some, ⊤}
use Rattle.std.specs.Ordering.{nat_cmp}
use Rattle.std.specs.Cmp.Lexicographic.{slice_cmp}
use Rattle.std.specs.List.Sorted.{IsStrictlySortedBy}
use Rattle.bal_tree.specs.declared.package.SourceFile.{SourceFile}
use Rattle.manifests.specs.Manifests.{Says, no_manifest}
use Rattle.manifests.specs.declared.reading.Manifest.{Manifest}
use Rattle.folder_files.specs.Files.{Files, HasFile, names}
use Rattle.package_files.specs.Listings.{IsListed, manifest_name}
use Rattle.package_files.specs.Names.{module_of}
use Rattle.source_files.specs.Files.{IsSource}
use Rattle.module_loader.specs.declared.limits.TheConstants.{MOST_FILES, MOST_PACKAGE_BYTES}

-- a source file as it lies in the folder, and its module
pub record Taken : Type 0 where
  pub name : List ℕ
  pub folder : List ℕ
  pub bytes : List ℕ

abbrev pub taken_names : List Taken → List (List ℕ)
taken_names taken = map (λ (t : Taken). t.name) taken

-- all source files, in the order of their names
pub record AreTaken (files : Files) (taken : List Taken) : Type 0 where
  pub rising : IsStrictlySortedBy (slice_cmp nat_cmp) (taken_names taken)
  pub lie : All (λ (t : Taken). HasFile files t.name t.bytes) taken
  pub folders : All (λ (t : Taken). module_of t.name ≡ Some t.folder) taken
  pub all : (name folder : List ℕ) → IsListed (names files) name → module_of name ≡ Some folder → Contains (taken_names taken) name

-- the bytes of source files, all told
abbrev pub total : List Taken → ℕ
total taken = sum (map (λ (t : Taken). length t.bytes) taken)

-- what the manifest says, or what is so where there is none
abbrev pub IsManifest : Files → Manifest → Type 0
IsManifest files m =
    ((bytes : List ℕ) × HasFile files manifest_name bytes × Says bytes m)
    ⊎ ((¬ (IsListed (names files) manifest_name)) × (m ≡ no_manifest))

-- these are the source files, of which there are not too many, and so says the manifest
pub record AreFound (files : Files) (taken : List Taken) (manifest : Manifest) : Type 0 where
  pub are : AreTaken files taken
  pub few : length taken ≤ MOST_FILES
  pub says : IsManifest files manifest

-- these files are read, from this number on
abbrev pub AreRead : ℕ → List Taken → List SourceFile → Type 0
AreRead number [] [] = ⊤
AreRead number [] (source ∷ read) = ⊥
AreRead number (t ∷ taken) [] = ⊥
AreRead number (t ∷ taken) (source ∷ read) = IsSource number t.name t.bytes source × AreRead (suc number) taken read

-- all source files are read, and they are not too long together
pub record AreAllRead (files : Files) (taken : List Taken) (manifest : Manifest) (read : List SourceFile) : Type 0 where
  pub found : AreFound files taken manifest
  pub reads : AreRead 0 taken read
  pub small : total taken ≤ MOST_PACKAGE_BYTES
