-- Definitions as they are listed by the code.
use Rattle.std.specs.Prelude.{◌≡◌, ◌==◌, ◌++◌, ◌∷◌, ℕ, Bool, List, [], Option, None, fold, map, if◌then◌else◌}
use Rattle.std.specs.Option.{option_or}
use Rattle.bal_tree.specs.declared.def.FunctionDef.{FunctionDef}
use Rattle.name_resolution.specs.Definitions.{Placed, placed}
use Rattle.type_builder.specs.MainFunction.{main_if}
use Rattle.type_builder.specs.Passes.{placed_places, started}
use Rattle.type_builder.specs.declared.placed.Listing.{Listing}
use Rattle.type_builder.specs.declared.placed.Site.{Site}

-- what is said of a definition that is listed, and the number of its first atom
abbrev pub placed_of : Site → Placed
placed_of s = placed s.«module» s.file s.def.now

abbrev pub seen : Site → Placed × ℕ
seen s = (placed_of s, s.first)

-- these definitions are listed
pub record IsListing (ps : List Placed) (l : Listing) : Type 0 where
  pub sites_are : map seen l.sites.items ≡ started l.first [] ps
  pub places_are : l.places.items ≡ fold placed_places [] ps

-- these are listed behind those that are
pub record Lists (qs : List Placed) (old new : Listing) : Type 0 where
  pub first : new.first ≡ old.first
  pub listed : (ps : List Placed) → IsListing ps old → IsListing (ps ++ qs) new

-- a definition, if it is wanted
abbrev pub if_wanted : Bool → Placed → List Placed
if_wanted wanted p = if wanted then p ∷ [] else []

-- the function `main` of the module `home`, if a definition is it
abbrev pub main_at : ℕ → Placed → Option FunctionDef
main_at home p = if home == p.«module» then main_if p.def else None

-- the first of several
abbrev pub first_main : ℕ → List Placed → Option FunctionDef
first_main home [] = None
first_main home (p ∷ ps) = option_or (main_at home p) (first_main home ps)
