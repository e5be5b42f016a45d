-- What is seen of structures, as they are held.
use Rattle.std.proofs.Common.{◌≡◌, ◌↔◌, ◌∙◌, ℕ, Bool, true, false, IsTrue, Option, Some, None, refl, sym, ap}
use Rattle.std.specs.Prelude.{option_map, slice_get}
use Rattle.std.proofs.lemmas.Option.{slice_get-map}
use Rattle.value_model.specs.declared.value.Value.TheVariants.{Struct}
use Rattle.value_model.specs.Heap.{AreAlike, Entries, Items, Members, Structure as ModelStructure}
use Rattle.op_model.specs.Equality.{Face, IsList, IsMapping, IsOther, face_of}
use Rattle.plain_run.specs.declared.held.Heap.{Heap}
use Rattle.plain_run.specs.declared.held.Structure.{Structure}
use Rattle.plain_run.specs.Held.{heap_of, members_of, structure_of}

abbrev face_in : Members → Face
face_in (Items vs) = IsList
face_in (Entries es) = IsMapping

abbrev face_by : ℕ → Option ModelStructure → Face
face_by n (Some s) = face_in s.members
face_by n None = IsOther (Struct n)

face-held : (h : Heap) (n : ℕ) (o : Option Structure) → slice_get h.structures n ≡ o → face_of (heap_of h) (Struct n) ≡ face_by n (option_map structure_of o)
face-held h n o e = ap (face_by n) (slice_get-map structure_of h.structures n ∙ ap (option_map structure_of) e)

apart : (x y : Face) → ¬ (x ≡ y) → x ≡ y → false ≡ true
apart x y n e = absurd (n e)

list_mapping : ¬ (IsList ≡ IsMapping)
list_mapping e = cc

mapping_list : ¬ (IsMapping ≡ IsList)
mapping_list e = cc

pub alike-faces : (a b : Members) → AreAlike a b ↔ (face_in a ≡ face_in b)
alike-faces (Items vs) (Items ws) = (λ _. refl, λ _. tt)
alike-faces (Items vs) (Entries ds) = (λ x. absurd x, λ e. absurd (list_mapping e))
alike-faces (Entries es) (Items ws) = (λ x. absurd x, λ e. absurd (mapping_list e))
alike-faces (Entries es) (Entries ds) = (λ _. refl, λ _. tt)

other_list : (n : ℕ) (m : Members) → ¬ (IsOther (Struct n) ≡ face_in m)
other_list n (Items vs) e = cc
other_list n (Entries es) e = cc

same_number : (n m : ℕ) → IsOther (Struct n) ≡ IsOther (Struct m) → n ≡ m
same_number n m e = cc

module _ (h : Heap) (n m : ℕ) where
  -- both are there
  pub both-there : (s t : Structure) (b : Bool) → slice_get h.structures n ≡ Some s → slice_get h.structures m ≡ Some t → IsTrue b ↔ AreAlike (members_of s.members) (members_of t.members) → IsTrue b ↔ (face_of (heap_of h) (Struct n) ≡ face_of (heap_of h) (Struct m))
  both-there s t b e f k =
      let x = face-held h n (Some s) e in
      let y = face-held h m (Some t) f in
      let alike = alike-faces (members_of s.members) (members_of t.members) in
      (λ i. x ∙ (alike.0 (k.0 i) ∙ sym y), λ i. k.1 (alike.1 (sym x ∙ (i ∙ y))))

  -- the first one alone is there
  pub first-there : (s : Structure) → slice_get h.structures n ≡ Some s → slice_get h.structures m ≡ None → ¬ (face_of (heap_of h) (Struct n) ≡ face_of (heap_of h) (Struct m))
  first-there s e f i =
      let x = face-held h n (Some s) e in
      let y = face-held h m None f in
      other_list m (members_of s.members) (sym y ∙ (sym i ∙ x))

  -- the first one is not there, and so the second one is not
  pub past-faces : slice_get h.structures n ≡ None → face_of (heap_of h) (Struct n) ≡ face_of (heap_of h) (Struct m) → slice_get h.structures m ≡ None
  past-faces e face = by (slice_get h.structures m) refl
    where
      by : (o : Option Structure) → slice_get h.structures m ≡ o → o ≡ None
      by None f = refl
      by (Some t) f = absurd (other_list n (members_of t.members) (sym (face-held h n None e) ∙ (face ∙ face-held h m (Some t) f)))
