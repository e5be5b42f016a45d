-- The files of a folder.
use Rattle.std.specs.Prelude.{◌≡◌, ◌+◌, ℕ, List, map, take, slice_get, Some}
use Rattle.bal_base.specs.declared.limits.TheConstants.{MOST_FILE_BYTES}
use Rattle.package_files.specs.Listings.{IsFirst}

-- files by number, each with its name and its bytes
abbrev pub Files : Type 0
Files = List (List ℕ × List ℕ)

abbrev pub names : Files → List (List ℕ)
names files = map (λ f. f.0) files

-- the file with this number has these bytes
abbrev pub HasBytes : Files → ℕ → List ℕ → Type 0
HasBytes files number bytes = slice_get (map (λ f. f.1) files) number ≡ Some bytes

-- the first file with this name has these bytes
abbrev pub HasFile : Files → List ℕ → List ℕ → Type 0
HasFile files name bytes = (number : ℕ) × IsFirst (names files) name number × HasBytes files number bytes

-- the bytes of the file with this number, as far as one byte more than a file may have
abbrev pub IsFrontOf : Files → ℕ → List ℕ → Type 0
IsFrontOf files number front = (bytes : List ℕ) × HasBytes files number bytes × (front ≡ take (MOST_FILE_BYTES + 1) bytes)
