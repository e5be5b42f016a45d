-- Why the files of a folder make no package, in the order in which it is looked for, and which files were read by then.
use Rattle.std.specs.Prelude.{◌≡◌, ◌<◌, ◌≤◌, ◌+◌, ◌⊎◌, ℕ, List, [], ◌∷◌, map, length, take, get_or, slice_get, Some, None}
use Rattle.bal_base.specs.declared.fault.FaultCode.{FaultCode}
use Rattle.bal_base.specs.declared.fault.FaultCode.TheVariants.{Duplicate, ImportCycle, NoModule, TooLarge}
use Rattle.bal_base.specs.declared.fault.Kept.TheVariants.{Count, Names, Nothing}
use Rattle.bal_base.specs.declared.fault.Refusal.{Refusal}
use Rattle.bal_base.specs.declared.place.Place.{Place}
use Rattle.bal_tree.specs.declared.package.SourceFile.{SourceFile}
use Rattle.manifests.specs.Manifests.{IsBad, bad_manifest}
use Rattle.manifests.specs.declared.reading.Manifest.{Manifest}
use Rattle.package_files.specs.Listings.{manifest_name}
use Rattle.package_modules.specs.Modules.{AreModules}
use Rattle.package_imports.specs.Cycles.{IsLeastCycle}
use Rattle.source_files.specs.Files.{IsUnread}
use Rattle.source_files.specs.Told.{refusal_of}
use Rattle.folder_files.specs.Files.{Files, HasFile}
use Rattle.module_loader.specs.Files.{AreAllRead, AreFound, AreRead, AreTaken, Taken, total}
use Rattle.module_loader.specs.Packages.{first_place, folders_of, graph_of, home_of, names_of, repeat_in, unknown_in}
use Rattle.module_loader.specs.declared.limits.TheConstants.{MOST_FILES, MOST_MODULES, MOST_PACKAGE_BYTES}

-- ---- how refusals are told

-- too many files, modules or bytes: it has no place, and keeps the count
abbrev pub too_large : ℕ → Refusal
too_large count = refusal_of [] [] (record { code = TooLarge; at = None; kept = Count count })

-- modules that import one another, by their names
abbrev pub cyclic : List (List ℕ) → Refusal
cyclic names = refusal_of [] [] (record { code = ImportCycle; at = None; kept = Names names })

abbrev pub no_file : Taken
no_file = record { name = []; folder = []; bytes = [] }

-- a fault at the place of an import in one of these files
abbrev pub at_import : List Taken → FaultCode → Place → Refusal
at_import taken code at =
    let file = get_or taken at.file no_file in
    refusal_of file.name file.bytes (record { code = code; at = Some at; kept = Nothing })

-- ---- before the files are read

-- a manifest with these bytes is bad; no file was read
pub record IsBadManifest (files : Files) (r : Refusal) (read : List SourceFile) : Type 0 where
  pub bytes : List ℕ
  pub has : HasFile files manifest_name bytes
  pub bad : IsBad bytes
  pub is : r ≡ refusal_of [] [] bad_manifest
  pub none : read ≡ []

-- ---- while the files are read

module _ (taken : List Taken) (r : Refusal) (read : List SourceFile) where
  -- the file with the number comes to no tree; those before it were read, and are not too long together
  pub record IsUnreadAt : Type 0 where
    pub number : ℕ
    pub file : Taken
    pub there : slice_get taken number ≡ Some file
    pub reads : AreRead 0 (take number taken) read
    pub small : total (take number taken) ≤ MOST_PACKAGE_BYTES
    pub unread : IsUnread number file.name file.bytes r

  -- with the file of the number, which was read as those before it, the files are too long together
  pub record IsTooLongAt : Type 0 where
    pub number : ℕ
    pub there : number < length taken
    pub reads : AreRead 0 (take (number + 1) taken) read
    pub small : total (take number taken) ≤ MOST_PACKAGE_BYTES
    pub many : MOST_PACKAGE_BYTES < total (take (number + 1) taken)
    pub is : r ≡ too_large (total (take (number + 1) taken))

  abbrev pub IsReadingFault : Type 0
  IsReadingFault = IsUnreadAt ⊎ IsTooLongAt

-- ---- where all files are read: their modules and imports

module _ (manifest : Manifest) (folders : List (List ℕ)) (taken : List Taken) (read : List SourceFile) (r : Refusal) where
  -- two imports of one file have one prefix
  pub record HasRepeat : Type 0 where
    pub at : Place
    pub first : first_place repeat_in read ≡ Some at
    pub is : r ≡ at_import taken Duplicate at

  -- an import names nothing
  pub record HasUnknown : Type 0 where
    pub unrepeated : first_place repeat_in read ≡ None
    pub at : Place
    pub first : first_place (unknown_in (home_of manifest folders)) read ≡ Some at
    pub is : r ≡ at_import taken NoModule at

  -- modules import one another in a cycle
  pub record HasCycle : Type 0 where
    pub unrepeated : first_place repeat_in read ≡ None
    pub known : first_place (unknown_in (home_of manifest folders)) read ≡ None
    pub first : ℕ
    pub others : List ℕ
    pub least : IsLeastCycle (graph_of manifest folders taken read) first others
    pub is : r ≡ cyclic (map (λ i. get_or (names_of manifest folders) i []) (first ∷ others))

  -- there are too many modules
  abbrev pub HasManyModules : Type 0
  HasManyModules = (MOST_MODULES < length folders) × (r ≡ too_large (length folders))

  -- the first of these
  abbrev pub IsLinkFault : Type 0
  IsLinkFault = HasManyModules ⊎ ((length folders ≤ MOST_MODULES) × (HasRepeat ⊎ (HasUnknown ⊎ HasCycle)))

-- the same, for the modules that there are
pub record HasLinkFault (manifest : Manifest) (taken : List Taken) (read : List SourceFile) (r : Refusal) : Type 0 where
  pub folders : List (List ℕ)
  pub modules : AreModules (folders_of taken) folders
  pub fault : IsLinkFault manifest folders taken read r

-- ---- all of it

module _ (files : Files) (r : Refusal) (read : List SourceFile) where
  -- there are too many source files
  pub record HasManyFiles : Type 0 where
    pub taken : List Taken
    pub are : AreTaken files taken
    pub many : MOST_FILES < length taken
    pub is : r ≡ too_large (length taken)
    pub none : read ≡ []

  -- there are not, and the manifest is bad
  pub record HasBadManifest : Type 0 where
    pub taken : List Taken
    pub are : AreTaken files taken
    pub few : length taken ≤ MOST_FILES
    pub bad : IsBadManifest files r read

  -- it isn't, and a file comes to no tree, or the files are too long together
  pub record HasBadFile : Type 0 where
    pub taken : List Taken
    pub manifest : Manifest
    pub found : AreFound files taken manifest
    pub fault : IsReadingFault taken r read

  -- all files are read, and there are too many modules, or an import is refused
  pub record HasBadImports : Type 0 where
    pub taken : List Taken
    pub manifest : Manifest
    pub are : AreAllRead files taken manifest read
    pub fault : HasLinkFault manifest taken read r

-- the refusal that is due, and the files that were read
abbrev pub IsRefusedFor : Files → Refusal → List SourceFile → Type 0
IsRefusedFor files r read = HasManyFiles files r read ⊎ (HasBadManifest files r read ⊎ (HasBadFile files r read ⊎ HasBadImports files r read))
