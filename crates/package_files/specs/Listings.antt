-- Which files of a folder are read: those of modules, by their names, and the manifest. Of several files with one name the first is.
-- Names come in the order of their code points, which is that of their bytes.
use Rattle.std.specs.Prelude.{◌≡◌, ◌<◌, ℕ, List, codes, slice_get, Option, Some, None, IsSome}
use Rattle.std.specs.Ordering.{nat_cmp}
use Rattle.std.specs.Cmp.Lexicographic.{slice_cmp}
use Rattle.std.specs.BTreeMap.{BTreeMap, get}
use Rattle.package_files.specs.Names.{module_of}
use Rattle.package_files.specs.declared.listing.Found.{Found}
use Rattle.package_files.specs.declared.listing.Listing.{Listing}

-- one of the files has this name
abbrev pub IsListed : List (List ℕ) → List ℕ → Type 0
IsListed names name = (number : ℕ) × (slice_get names number ≡ Some name)

-- the first of the files that has this name has this number
abbrev pub IsFirst : List (List ℕ) → List ℕ → ℕ → Type 0
IsFirst names name number =
    (slice_get names number ≡ Some name) × ((other : ℕ) → other < number → slice_get names other ≡ Some name → ⊥)

-- the first file with this name, or that there is none
abbrev pub IsFirstOf : List (List ℕ) → List ℕ → Option ℕ → Type 0
IsFirstOf names name (Some number) = IsFirst names name number
IsFirstOf names name None = ¬ (IsListed names name)

-- what is known of the file with a name
abbrev pub found_at : BTreeMap (List ℕ) Found → List ℕ → Option Found
found_at sources name = get (slice_cmp nat_cmp) sources name

-- the source files among files with these names: for each its number, which is that of the first with the name, and its module
pub record AreSources (names : List (List ℕ)) (sources : BTreeMap (List ℕ) Found) : Type 0 where
  pub first : (name : List ℕ) (f : Found) → found_at sources name ≡ Some f → IsFirst names name f.number
  pub folder : (name : List ℕ) (f : Found) → found_at sources name ≡ Some f → module_of name ≡ Some f.«module»
  pub all : (name folder : List ℕ) → IsListed names name → module_of name ≡ Some folder → IsSome (found_at sources name)

abbrev pub manifest_name : List ℕ
manifest_name = codes "Ballerina.toml"

-- the number of the manifest, where one more is found with this number
abbrev pub first_number : Option ℕ → ℕ → Option ℕ
first_number (Some n) number = Some n
first_number None number = Some number

-- what is read of files with these names
pub record IsListing (names : List (List ℕ)) (listing : Listing) : Type 0 where
  pub sources : AreSources names listing.sources
  pub manifest : IsFirstOf names manifest_name listing.manifest
