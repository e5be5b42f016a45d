-- The places of a descriptor's atoms stand behind those before it.
use Rattle.std.proofs.Common.{◌≡◌, ◌≤◌, ◌+◌, ℕ, List, [], ◌∷◌, ◌++◌, length, length-append, arith}
use Rattle.bal_base.specs.declared.place.Place.{Place}
use Rattle.descriptors.specs.Descriptors.{Descriptor, Descriptors, FieldDescriptors, MaybeDescriptor}
use Rattle.type_builder.specs.AtomPlaces.{all_places, field_places, places, places_if}
use Rattle.type_builder.proofs.Adding.{Adds, all-add, fields-add, if-add, places-add}

pub le-trans : (a b c : ℕ) → a ≤ b → b ≤ c → a ≤ c
le-trans a b c p q = omega (arith, p, q)

pub one-longer : (before now : List Place) (at : Place) → length before ≤ length now → length before ≤ length (now ++ at ∷ [])
one-longer before now at p = let long : length (now ++ at ∷ []) ≡ length now + 1 = length-append now (at ∷ []) in omega (arith, p, long)

abbrev pub Grown : (List Place → List Place) → Type 0
Grown f = (before : List Place) → length before ≤ length (f before)

pub both-grow : (f g : List Place → List Place) → Grown f → Grown g → Grown (λ before. g (f before))
both-grow f g p q before = le-trans (length before) (length (f before)) (length (g (f before))) (p before) (q (f before))

pub then-one : (f : List Place → List Place) (at : Place) → Grown f → Grown (λ before. f before ++ at ∷ [])
then-one f at p before = one-longer before (f before) at (p before)

-- what adds as many wherever it begins
grown : (f : List Place → List Place) → Adds f → Grown f
grown f adds before = let more : length (f before) ≡ length before + length (f []) = adds before in omega (arith, more)

pub places-grow : (d : Descriptor) → Grown (places d)
places-grow d = grown (places d) (places-add d)

pub all-grow : (ds : Descriptors) → Grown (all_places ds)
all-grow ds = grown (all_places ds) (all-add ds)

pub fields-grow : (fs : FieldDescriptors) → Grown (field_places fs)
fields-grow fs = grown (field_places fs) (fields-add fs)

pub if-grow : (m : MaybeDescriptor) → Grown (places_if m)
if-grow m = grown (places_if m) (if-add m)
