-- The fillers of a gap in a list, and the structures that are made for them.
use Rattle.std.specs.Prelude.{◌+◌, ◌++◌, ◌-◌, ◌≢◌, ℕ, zero, suc, Bool, true, false, List, [], ◌∷◌, Some, All, filter, length, map}
use Rattle.value_model.specs.declared.value.Value.{Value}
use Rattle.value_model.specs.declared.value.Value.TheVariants.{Nil, Bool as Truth, Int, Str, Struct}
use Rattle.value_model.specs.declared.filler.Filler.{Filler}
use Rattle.value_model.specs.declared.filler.Filler.TheVariants.{Nothing, Nil as NilFiller, Bool as BoolFiller, Int as IntFiller, Str as StrFiller, List as NewList, Mapping as NewMapping}
use Rattle.value_model.specs.Heap.{Structure, Items, Entries}
use Rattle.op_model.specs.Levels.{levels, all_of, numbers_from}
use Rattle.op_model.specs.Rows.{new_structure}

-- the filler of a place, given those of the fixed places and then that of the rest: the last one serves all later places
abbrev pub filler_at : List Filler → ℕ → Filler
filler_at [] k = Nothing
filler_at (f ∷ []) k = f
filler_at (f ∷ g ∷ fs) zero = f
filler_at (f ∷ g ∷ fs) (suc k) = filler_at (g ∷ fs) k

-- the fillers of so many places, from one on
abbrev pub fillers_from : List Filler → ℕ → ℕ → List Filler
fillers_from fs first count = map (filler_at fs) (numbers_from first count)

-- a new structure has to be made for it
abbrev pub is_new : Filler → Bool
is_new Nothing = false
is_new NilFiller = false
is_new (BoolFiller b) = false
is_new (IntFiller i) = false
is_new (StrFiller t) = false
is_new (NewList a) = true
is_new (NewMapping a) = true

abbrev pub new_ones : List Filler → List Filler
new_ones fs = filter is_new fs

-- the values of fillers, where the new structures are numbered from one on
abbrev pub filler_values : ℕ → List Filler → List Value
filler_values next [] = []
filler_values next (Nothing ∷ fs) = filler_values next fs
filler_values next (NilFiller ∷ fs) = Nil ∷ filler_values next fs
filler_values next (BoolFiller b ∷ fs) = Truth b ∷ filler_values next fs
filler_values next (IntFiller i ∷ fs) = Int i ∷ filler_values next fs
filler_values next (StrFiller t ∷ fs) = Str t ∷ filler_values next fs
filler_values next (NewList a ∷ fs) = Struct next ∷ filler_values (next + 1) fs
filler_values next (NewMapping a ∷ fs) = Struct next ∷ filler_values (next + 1) fs

-- there is a filler
abbrev pub IsThereFiller : Filler → Type 0
IsThereFiller f = f ≢ Nothing

-- `fixed` gives the fillers of the fixed places of an atom of lists
module _ (fixed : ℕ → List Filler) where
  -- the fillers of the members of a new structure
  abbrev pub inner_fillers : Filler → List Filler
  inner_fillers Nothing = []
  inner_fillers NilFiller = []
  inner_fillers (BoolFiller b) = []
  inner_fillers (IntFiller i) = []
  inner_fillers (StrFiller t) = []
  inner_fillers (NewList a) = fixed a
  inner_fillers (NewMapping a) = []

  -- all structures that are made for these fillers, level by level: `depth` is no less than lists stand in one another
  abbrev pub made_for : ℕ → List Filler → List Filler
  made_for depth fs = levels all_of (λ f. new_ones (inner_fillers f)) (new_ones fs) depth

  -- these as structures, where those that are made for their members are numbered from one on
  abbrev pub filler_structures : ℕ → List Filler → List Structure
  filler_structures next [] = []
  filler_structures next (NewList a ∷ fs) =
      new_structure (Some a) true (Items (filler_values next (fixed a))) ∷ filler_structures (next + length (new_ones (fixed a))) fs
  filler_structures next (NewMapping a ∷ fs) = new_structure (Some a) true (Entries []) ∷ filler_structures next fs
  filler_structures next (Nothing ∷ fs) = filler_structures next fs
  filler_structures next (NilFiller ∷ fs) = filler_structures next fs
  filler_structures next (BoolFiller b ∷ fs) = filler_structures next fs
  filler_structures next (IntFiller i ∷ fs) = filler_structures next fs
  filler_structures next (StrFiller t ∷ fs) = filler_structures next fs
