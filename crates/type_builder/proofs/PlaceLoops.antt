-- The places of atoms, descriptor by descriptor.
use Rattle.std.proofs.Common.{◌≡◌, ℕ, ◌+◌, ◌<◌, List, [], ◌∷◌, ◌++◌, length, get_or, take, map, sym, ap, refl, ◌∙◌}
use Rattle.std.proofs.lemmas.List.{map-append, take_more}
use Rattle.bal_base.specs.declared.place.Place.{Place}
use Rattle.descriptors.specs.Descriptors.{Descriptor, FieldOf, in_a_row, fields_in_a_row}
use Rattle.type_builder.specs.AtomPlaces.{all_places, field_places, places}

pub take-more : {X : Type 0} (xs : List X) (i : ℕ) (x : X) → i < length xs → x ≡ get_or xs i x → take (i + 1) xs ≡ take i xs ++ x ∷ []
take-more xs i x lt is = take_more xs i x lt ∙ ap (λ y. take i xs ++ y ∷ []) (sym is)

pub map-more : {X Y : Type 0} (f : X → Y) (xs : List X) (i : ℕ) (x : X) → i < length xs → x ≡ get_or xs i x → map f (take (i + 1) xs) ≡ map f (take i xs) ++ f x ∷ []
map-more f xs i x lt is = ap (map f) (take-more xs i x lt is) ∙ map-append f (take i xs) (x ∷ [])

all-push : (ds : List Descriptor) (d : Descriptor) (b : List Place) → all_places (in_a_row (ds ++ d ∷ [])) b ≡ places d (all_places (in_a_row ds) b)
all-push [] d b = refl
all-push (e ∷ ds) d b = all-push ds d (places e b)

pub all-more : {X : Type 0} (f : X → Descriptor) (xs : List X) (i : ℕ) (x : X) (old mid new : List Place) → i < length xs → x ≡ get_or xs i x
    → mid ≡ all_places (in_a_row (map f (take i xs))) old → new ≡ places (f x) mid → new ≡ all_places (in_a_row (map f (take (i + 1) xs))) old
all-more f xs i x old mid new lt is before next =
    next ∙ ap (places (f x)) before ∙ sym (ap (λ ds. all_places (in_a_row ds) old) (map-more f xs i x lt is) ∙ all-push (map f (take i xs)) (f x) old)

fields-push : (fs : List FieldOf) (f : FieldOf) (b : List Place) → field_places (fields_in_a_row (fs ++ f ∷ [])) b ≡ places f.ty (field_places (fields_in_a_row fs) b)
fields-push [] f b = refl
fields-push (g ∷ fs) f b = fields-push fs f (places g.ty b)

pub fields-more : {X : Type 0} (f : X → FieldOf) (xs : List X) (i : ℕ) (x : X) (old mid new : List Place) → i < length xs → x ≡ get_or xs i x
    → mid ≡ field_places (fields_in_a_row (map f (take i xs))) old → new ≡ places (f x).ty mid → new ≡ field_places (fields_in_a_row (map f (take (i + 1) xs))) old
fields-more f xs i x old mid new lt is before next =
    next ∙ ap (places (f x).ty) before ∙ sym (ap (λ fs. field_places (fields_in_a_row fs) old) (map-more f xs i x lt is) ∙ fields-push (map f (take i xs)) (f x) old)
