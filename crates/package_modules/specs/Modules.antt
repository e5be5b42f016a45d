-- The modules of source files: the default one, which is written as no characters, and those in which files are.
use Rattle.std.specs.Prelude.{◌≡◌, ◌⊎◌, ℕ, List, [], Contains}
use Rattle.std.specs.Ordering.{nat_cmp}
use Rattle.std.specs.Cmp.Lexicographic.{slice_cmp}
use Rattle.std.specs.List.Sorted.{IsStrictlySortedBy}

-- the modules of files that are in these, by their names
pub record AreModules (folders names : List (List ℕ)) : Type 0 where
  pub rising : IsStrictlySortedBy (slice_cmp nat_cmp) names
  pub default : Contains names []
  pub are : (name : List ℕ) → Contains names name → (name ≡ []) ⊎ Contains folders name
  pub all : (name : List ℕ) → Contains folders name → Contains names name
