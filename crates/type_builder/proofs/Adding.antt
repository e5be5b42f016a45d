-- The places of a descriptor's atoms are as many more wherever they begin; and the numbers at which definitions start.
use Rattle.std.proofs.Common.{◌≡◌, ◌≤◌, ℕ, zero, suc, ◌+◌, List, [], ◌∷◌, ◌++◌, length, length-append, fold, Option, None, Some, ap, sym, arith}
use Rattle.std.specs.Prelude.{slice_get}
use Rattle.std.proofs.lemmas.Option.{none-some, same_Some, some_pair_parts}
use Rattle.bal_base.specs.declared.place.Place.{Place}
use Rattle.bal_tree.specs.declared.def.Def.{Def}
use Rattle.bal_tree.specs.declared.def.Def.TheVariants.{«Type» as TypeOf, Const, Variable as VariableOf, Function as FunctionOf}
use Rattle.bal_tree.specs.declared.def.FunctionDef.{FunctionDef}
use Rattle.bal_tree.specs.declared.params.Param.{Param}
use Rattle.descriptors.specs.Descriptors.{Descriptor, builtin, value, named, optional, union, intersection, array, repeated, tuple, map_of, closed_record, open_record, any_error, error_with, any_function, function_from, future_of, Descriptors, no_more, then_more, FieldDescriptors, no_field, then_field, MaybeDescriptor, absent, present, descriptor_if, descriptor_of}
use Rattle.name_resolution.specs.Definitions.{Placed}
use Rattle.type_builder.specs.AtomPlaces.{all_places, def_places, field_places, function_places, param_places, places, places_if, rest_places}
use Rattle.type_builder.specs.Passes.{placed_places, started}

-- as many more behind any places as behind none
abbrev pub Adds : (List Place → List Place) → Type 0
Adds f = (before : List Place) → length (f before) ≡ length before + length (f [])

none-added : Adds (λ before. before)
none-added before = omega arith

pub both-add : (f g : List Place → List Place) → Adds f → Adds g → Adds (λ before. g (f before))
both-add f g p q before =
    let whole : length (g (f before)) ≡ length (f before) + length (g []) = q (f before) in
    let first : length (f before) ≡ length before + length (f []) = p before in
    let alone : length (g (f [])) ≡ length (f []) + length (g []) = q (f []) in omega (arith, whole, first, alone)

one-added : (at : Place) → Adds (λ before. before ++ at ∷ [])
one-added at before = length-append before (at ∷ [])

then-added : (f : List Place → List Place) (at : Place) → Adds f → Adds (λ before. f before ++ at ∷ [])
then-added f at p = both-add f (λ before. before ++ at ∷ []) p (one-added at)

mutual
  pub places-add : (d : Descriptor) → Adds (places d)
  places-add (builtin b) = none-added
  places-add (value v) = none-added
  places-add (named name) = none-added
  places-add (optional of) = places-add of
  places-add (union left right) = both-add (places left) (places right) (places-add left) (places-add right)
  places-add (intersection left right) = both-add (places left) (places right) (places-add left) (places-add right)
  places-add (array member at) = then-added (places member) at (places-add member)
  places-add (repeated member n at) = then-added (places member) at (places-add member)
  places-add (tuple members rest at) =
      then-added (λ before. places_if rest (all_places members before)) at (both-add (all_places members) (places_if rest) (all-add members) (if-add rest))
  places-add (map_of member at) = then-added (places member) at (places-add member)
  places-add (closed_record fields rest at) =
      then-added (λ before. places_if rest (field_places fields before)) at (both-add (field_places fields) (places_if rest) (fields-add fields) (if-add rest))
  places-add (open_record fields at) = then-added (field_places fields) at (fields-add fields)
  places-add any_error = none-added
  places-add (error_with detail at) = then-added (places detail) at (places-add detail)
  places-add (any_function isolated) = none-added
  places-add (function_from isolated params rest result at) =
      then-added (λ before. places_if result (places_if rest (all_places params before)) ++ at ∷ []) at
      (then-added (λ before. places_if result (places_if rest (all_places params before))) at
      (both-add (λ before. places_if rest (all_places params before)) (places_if result) (both-add (all_places params) (places_if rest) (all-add params) (if-add rest)) (if-add result)))
  places-add (future_of result at) = then-added (places result) at (places-add result)

  pub all-add : (ds : Descriptors) → Adds (all_places ds)
  all-add no_more = none-added
  all-add (then_more d ds) = both-add (places d) (all_places ds) (places-add d) (all-add ds)

  pub fields-add : (fs : FieldDescriptors) → Adds (field_places fs)
  fields-add no_field = none-added
  fields-add (then_field name may_lack d fs) = both-add (places d) (field_places fs) (places-add d) (fields-add fs)

  pub if-add : (m : MaybeDescriptor) → Adds (places_if m)
  if-add absent = none-added
  if-add (present d) = places-add d

-- ---- definitions

params-add : (ps : List Param) → Adds (λ before. fold param_places before ps)
params-add [] = none-added
params-add (p ∷ ps) = both-add (λ before. param_places before p) (λ before. fold param_places before ps) (places-add (descriptor_of p.ty.value)) (params-add ps)

rest-adds : (rest : Option Param) → Adds (rest_places rest)
rest-adds None = none-added
rest-adds (Some p) = places-add (descriptor_of p.ty.value)

function-adds : (d : FunctionDef) → Adds (function_places d)
function-adds d =
    then-added (λ before. ((result (rest (params before)) ++ d.at ∷ []) ++ d.at ∷ []) ++ d.at ∷ []) d.at
    (then-added (λ before. (result (rest (params before)) ++ d.at ∷ []) ++ d.at ∷ []) d.at
    (then-added (λ before. result (rest (params before)) ++ d.at ∷ []) d.at
    (then-added (λ before. result (rest (params before))) d.at
    (both-add (λ before. rest (params before)) result (both-add params rest (params-add d.params.params.items) (rest-adds d.params.rest)) (if-add (descriptor_if d.result))))))
  where
    params : List Place → List Place
    params before = fold param_places before d.params.params.items

    rest : List Place → List Place
    rest = rest_places d.params.rest

    result : List Place → List Place
    result = places_if (descriptor_if d.result)

pub def-adds : (d : Def) → Adds (λ before. def_places before d)
def-adds (TypeOf d) = places-add (descriptor_of d.ty.value)
def-adds (Const d) = if-add (descriptor_if d.ty)
def-adds (VariableOf d) = places-add (descriptor_of d.ty.value)
def-adds (FunctionOf d) = function-adds d

pub all-placed-add : (ps : List Placed) → Adds (λ before. fold placed_places before ps)
all-placed-add [] = none-added
all-placed-add (p ∷ ps) = both-add (λ before. placed_places before p) (λ before. fold placed_places before ps) (def-adds p.def) (all-placed-add ps)

-- ---- where definitions start

-- a definition that is started, and the atoms of those up to it end before those of all
pub started-within : (first : ℕ) (before : List Place) (ps : List Placed) (n start : ℕ) (q : Placed) → slice_get (started first before ps) n ≡ Some (q, start)
    → (slice_get ps n ≡ Some q) × (start + length (placed_places [] q) ≤ first + length (fold placed_places before ps))
started-within first before [] n start q at = absurd (none-some (q, start) at)
started-within first before (p ∷ ps) zero start q at =
    let parts = some_pair_parts p q (first + length before) start at in
    let is : p ≡ q = parts.0 in
    let number : first + length before ≡ start = parts.1 in
    let own : length (placed_places before p) ≡ length before + length (placed_places [] p) = def-adds p.def before in
    let others : length (fold placed_places (placed_places before p) ps) ≡ length (placed_places before p) + length (fold placed_places [] ps) = all-placed-add ps (placed_places before p) in
    let long : length (placed_places [] q) ≡ length (placed_places [] p) = ap (λ x. length (placed_places [] x)) (sym is) in
    (ap Some is, omega (arith, number, own, others, long))
started-within first before (p ∷ ps) (suc n) start q at = started-within first (placed_places before p) ps n start q at

-- each definition is started
pub started-at : (first : ℕ) (before : List Place) (ps : List Placed) (n : ℕ) (q : Placed) → slice_get ps n ≡ Some q → (start : ℕ) × (slice_get (started first before ps) n ≡ Some (q, start))
started-at first before [] n q at = absurd (none-some q at)
started-at first before (p ∷ ps) zero q at = (first + length before, ap (λ x. Some (x, first + length before)) (same_Some p q at))
started-at first before (p ∷ ps) (suc n) q at = started-at first (placed_places before p) ps n q at
