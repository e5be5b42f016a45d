-- Marks of atoms, by number: that a list of the atom can be filled.
use Rattle.std.specs.Prelude.{◌≡◌, ◌≤◌, ◌↔◌, ℕ, Bool, true, false, List, [], All, IsSomeAnd, Some, get_or, if◌then◌else◌, length, map, slice_get, take}
use Rattle.type_model.specs.declared.atoms.AtomDef.{AtomDef}
use Rattle.type_model.specs.declared.atoms.AtomDef.TheVariants.{List as ListAtom, Mapping as MappingAtom, Arrow, Error as ErrorAtom, Future as FutureAtom}
use Rattle.value_model.specs.declared.filler.Filler.{Filler}
use Rattle.value_model.specs.declared.filler.Filler.TheVariants.{List as NewList, Nothing}
use Rattle.value_model.specs.Exact.{HasPlaces, IsFillerWithin}
use Rattle.list_fillers.specs.declared.candidate.Candidate.{Candidate}
use Rattle.list_fillers.specs.declared.candidate.Candidate.TheVariants.{OfList, Settled, Without}

abbrev pub is_marked : List Bool → ℕ → Bool
is_marked marks a = get_or marks a false

-- whether a type with this candidate has a filler
abbrev pub has_filler : List Bool → Candidate → Bool
has_filler marks (Settled f) = true
has_filler marks (OfList a) = is_marked marks a
has_filler marks Without = false

-- its filler, or that there is none
abbrev pub chosen : List Bool → Candidate → Filler
chosen marks (Settled f) = f
chosen marks (OfList a) = if is_marked marks a then NewList a else Nothing
chosen marks Without = Nothing

abbrev pub chosen_by : List Bool → List (List Candidate) → ℕ → List Filler
chosen_by marks rows a = map (chosen marks) (get_or rows a [])

-- each fixed place of the atom of lists has a filler
abbrev pub CanFill : List Bool → AtomDef → List Candidate → Type 0
CanFill marks (ListAtom fixed rest) cs = All (λ c. has_filler marks c ≡ true) (take (length fixed) cs)
CanFill marks (MappingAtom fields rest) cs = ⊥
CanFill marks (Arrow args outcome alone) cs = ⊥
CanFill marks (ErrorAtom detail) cs = ⊥
CanFill marks (FutureAtom outcome) cs = ⊥

module _ (atoms : List AtomDef) (rows : List (List Candidate)) where
  -- what can be filled by the first marks is marked in the second, and nothing else
  pub record IsRound (old new : List Bool) : Type 0 where
    pub within : (a : ℕ) (d : AtomDef) → slice_get atoms a ≡ Some d → (is_marked new a ≡ true) ↔ CanFill old d (get_or rows a [])
    pub beyond : (a : ℕ) → length atoms ≤ a → is_marked new a ≡ false

  -- what is marked can be filled
  abbrev pub AreSound : List Bool → Type 0
  AreSound marks =
      (a : ℕ) → is_marked marks a ≡ true → (n : ℕ) × IsSomeAnd (slice_get atoms a) (HasPlaces atoms (λ u. (g : Filler) × IsFillerWithin atoms n u g))
