-- Source files that were found in a folder, before they are read.
use Rattle.std.specs.Prelude.{◌≡◌, ◌<◌, ℕ, List, [], map, get_or, length, All}
use Rattle.std.specs.BTreeMap.{values}
use Rattle.folder_files.specs.Files.{Files, names}
use Rattle.package_files.specs.Listings.{IsListing}
use Rattle.package_files.specs.declared.listing.Found.{Found}
use Rattle.package_files.specs.declared.listing.Listing.{Listing}
use Rattle.module_loader.specs.Files.{AreTaken, Taken}
use Rattle.module_loader.specs.declared.sources.Source.{Source}

-- a source file, by the entry that a listing has for it
abbrev pub source_of : (List ℕ × Found) → Source
source_of e = record { name = e.0; folder = e.1.«module»; number = e.1.number }

-- the bytes of the file with this number
abbrev pub bytes_at : Files → ℕ → List ℕ
bytes_at files number = (get_or files number ([], [])).1

-- a source file as it lies in the folder
abbrev pub taken_from : Files → Source → Taken
taken_from files s = record { name = s.name; folder = s.folder; bytes = bytes_at files s.number }

abbrev pub taken_in : Files → List Source → List Taken
taken_in files sources = map (taken_from files) sources

-- the modules of source files, which are written as folders
abbrev pub folders_in : List Source → List (List ℕ)
folders_in sources = map (λ (s : Source). s.folder) sources

-- the folder has a file with each of their numbers
abbrev pub AreThere : Files → List Source → Type 0
AreThere files sources = All (λ (s : Source). s.number < length files) sources

-- their modules are those of the listing
abbrev pub AreListed : Listing → List Source → Type 0
AreListed listing sources = folders_in sources ≡ map (λ f. f.«module») (values listing.sources)

-- the listing is that of the folder, and these are the source files
pub record IsFound (files : Files) (listing : Listing) (sources : List Source) : Type 0 where
  pub listing_is : IsListing (names files) listing
  pub taken : AreTaken files (taken_in files sources)
  pub there : AreThere files sources
