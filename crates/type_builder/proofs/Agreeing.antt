-- Two runs of the table, over names that stand for the same where it matters, give the same.
use Rattle.std.proofs.Common.{◌≡◌, ℕ, ◌+◌, Bool, true, false, List, [], ◌∷◌, length, length-append, Option, None, Some, Result, Ok, Err, refl, sym, ap, ◌∙◌, ◌↔◌, ◌⊎◌, inl, inr, subst}
use Rattle.std.specs.Prelude.{⊤, ℤ}
use Rattle.bal_base.specs.declared.fault.FaultCode.{FaultCode}
use Rattle.bal_base.specs.declared.place.Place.{Place}
use Rattle.bal_tree.specs.declared.name.QualifiedName.{QualifiedName}
use Rattle.bal_tree.specs.declared.types.BuiltinType.TheVariants.{AnyData as AnyDataWord}
use Rattle.type_model.specs.declared.atoms.AtomDef.{AtomDef}
use Rattle.type_model.specs.declared.atoms.AtomDef.TheVariants.{List as ListAtom, Mapping as MappingAtom, Arrow, Error as ErrorAtom, Future as FutureAtom}
use Rattle.type_model.specs.declared.atoms.FieldDef.{FieldDef}
use Rattle.type_model.specs.declared.basic.BasicSet.TheVariants.{ErrorAll}
use Rattle.type_model.specs.declared.basic.SemType.{SemType, Basic, Atom}
use Rattle.type_model.specs.declared.basic.Ty.{Ty}
use Rattle.checks.specs.Checks.{Check, Gives, gives, gives_some, refuses, ◌▷◌}
use Rattle.descriptors.specs.declared.names.Names.{Names}
use Rattle.descriptors.specs.declared.names.Scope.{Scope}
use Rattle.bal_base.specs.declared.shape.Shape.{Shape}
use Rattle.bal_base.specs.Valid.{IsValid}
use Rattle.bal_tree.specs.declared.types.BuiltinType.{BuiltinType}
use Rattle.bal_tree.specs.declared.types.BuiltinType.TheVariants.{Int as IntWord, String as StringWord, Boolean as BooleanWord, Byte as ByteWord, Any as AnyWord, Never as NeverWord, ReadOnly as ReadOnlyWord}
use Rattle.type_model.specs.declared.basic.Choice.{Choice}
use Rattle.type_model.proofs.SameTypes.{In-same}
use Rattle.type_builder.proofs.Counting.{Counted, Grows, all-counted, as_before, described-counted, fields-counted, gives-counted, if-counted, one_more, result-counted, then-counted}
use Rattle.type_builder.specs.AtomPlaces.{all_places, field_places, places, places_if}
use Rattle.descriptors.specs.Descriptors.{Descriptor, builtin, value, named, optional, union, intersection, array, repeated, tuple, map_of, closed_record, open_record, any_error, error_with, any_function, function_from, future_of, Descriptors, FieldDescriptors, MaybeDescriptor, is_readonly}
use Rattle.descriptors.specs.Described.{Atoms, AreCopies, HasMeaning, IsCopy, IsRewritten, choices_with, with_choices, IsAnyFunction, IsBuiltin, IsIntersection, IsOptional, IsUnion, all_by, arrow_by, count_of, described_by, fields_by, gives_named, if_by, list_by, list_of, mapping_by, mapping_of, params_of, plain, plain_by, result_by, value_set}
use Rattle.descriptors.specs.Naming.{type_named}
use Rattle.name_resolution.specs.Clear.{IsClear}

-- ---- types that mean the same

module _ (final : Atoms) where
  pub same-itself : (a b : Ty) → a ≡ b → IsRewritten a final b
  same-itself a b e = subst (IsRewritten a final) e (record { shapes = λ x valid. (λ i. i, λ i. i); lists = refl; maps = refl })

  pub same-means : (P Q : Shape → Type 0) (ls ms ks ns : List Choice) (a b : Ty) → ((x : Shape) → IsValid x → P x ↔ Q x) → ls ≡ ks → ms ≡ ns
      → HasMeaning P ls ms final a → HasMeaning Q ks ns final b → IsRewritten a final b
  same-means P Q ls ms ks ns a b turns l m h k = record {
    shapes = λ x valid. (
      λ i. (h.shapes x valid).1 ((turns x valid).1 ((k.shapes x valid).0 i)),
      λ i. (k.shapes x valid).1 ((turns x valid).0 ((h.shapes x valid).0 i)),
    );
    lists = k.lists ∙ sym l ∙ sym h.lists;
    maps = k.maps ∙ sym m ∙ sym h.maps;
  }

  same-plain : (P : Shape → Type 0) (ls ms : List Choice) (a b : Ty) → HasMeaning P ls ms final a → HasMeaning P ls ms final b → IsRewritten a final b
  same-plain P ls ms a b = same-means P P ls ms ls ms a b (λ x valid. (λ p. p, λ p. p)) refl refl

  same-builtin : (w : BuiltinType) (a b : Ty) → IsBuiltin w final a → IsBuiltin w final b → IsRewritten a final b
  same-builtin IntWord a b h k = same-itself a b (h ∙ sym k)
  same-builtin StringWord a b h k = same-itself a b (h ∙ sym k)
  same-builtin BooleanWord a b h k = same-plain _ [] [] a b h k
  same-builtin ByteWord a b h k = same-itself a b (h ∙ sym k)
  same-builtin AnyWord a b h k = same-plain _ [] [] a b h k
  same-builtin AnyDataWord a b h k = same-plain _ [] [] a b h k
  same-builtin NeverWord a b h k = same-itself a b (h ∙ sym k)
  same-builtin ReadOnlyWord a b h k = same-itself a b (h ∙ sym k)

  same-function : (isolated : Bool) (a b : Ty) → IsAnyFunction isolated final a → IsAnyFunction isolated final b → IsRewritten a final b
  same-function false a b h k = same-itself a b (h ∙ sym k)
  same-function true a b h k = same-plain _ [] [] a b h k

  same-optional : (s t a b : Ty) → IsRewritten s final t → IsOptional s final a → IsOptional t final b → IsRewritten a final b
  same-optional s t a b r = same-means _ _ s.lists s.maps t.lists t.maps a b
      (λ x valid. (or-one (r.shapes x valid).1, or-one (r.shapes x valid).0)) (sym r.lists) (sym r.maps)
    where
      or-one : {X Y Z : Type 0} → (X → Y) → X ⊎ Z → Y ⊎ Z
      or-one f (inl x) = inl (f x)
      or-one f (inr z) = inr z

  same-union : (s t u v a b : Ty) → IsRewritten s final u → IsRewritten t final v → IsUnion s t final a → IsUnion u v final b → IsRewritten a final b
  same-union s t u v a b r q = same-means _ _ (with_choices s.lists t.lists) (with_choices s.maps t.maps) (with_choices u.lists v.lists) (with_choices u.maps v.maps) a b
      (λ x valid. (or-both (r.shapes x valid).1 (q.shapes x valid).1, or-both (r.shapes x valid).0 (q.shapes x valid).0))
      (ap (λ l. with_choices l t.lists) (sym r.lists) ∙ ap (with_choices u.lists) (sym q.lists))
      (ap (λ l. with_choices l t.maps) (sym r.maps) ∙ ap (with_choices u.maps) (sym q.maps))
    where
      or-both : {X Y Z W : Type 0} → (X → Y) → (Z → W) → X ⊎ Z → Y ⊎ W
      or-both f g (inl x) = inl (f x)
      or-both f g (inr z) = inr (g z)

  same-intersection : (immutable : Bool) (s t u v a b : Ty) → IsRewritten s final u → IsRewritten t final v → IsIntersection immutable s t final a → IsIntersection immutable u v final b
      → IsRewritten a final b
  same-intersection immutable s t u v a b r q = same-means _ _ (choices_with immutable s.lists) (choices_with immutable s.maps) (choices_with immutable u.lists) (choices_with immutable u.maps) a b
      (λ x valid. ((λ (p, o). ((r.shapes x valid).1 p, (q.shapes x valid).1 o)), (λ (p, o). ((r.shapes x valid).0 p, (q.shapes x valid).0 o))))
      (ap (choices_with immutable) (sym r.lists)) (ap (choices_with immutable) (sym r.maps))

  same-copies : (s t a b : Ty) → IsRewritten s final t → IsCopy s a → IsCopy t b → IsRewritten a final b
  same-copies s t a b r c d = record {
    shapes = λ x valid. let left = In-same final x s.sem a.sem c.sem in let right = In-same final x t.sem b.sem d.sem in (
      λ i. left.0 ((r.shapes x valid).0 (right.1 i)),
      λ i. right.0 ((r.shapes x valid).1 (left.1 i)),
    );
    lists = sym d.lists ∙ r.lists ∙ c.lists;
    maps = sym d.maps ∙ r.maps ∙ c.maps;
  }

-- ---- atoms: what is given turns on how many there are

-- size: how many atoms there are in a state; number: the number of the next one
module _ {S : Type 0} (size : S → ℕ) where
  -- what is given is put together of how many atoms there are where the list has grown so
  abbrev Numbered : {A : Type 0} → (ℕ → A) → Grows → Check S A → Type 0
  Numbered {A} F grow m = (s : S) (a : A) (t : S) (before : List Place) → size s ≡ length before → m s (Gives a) t → a ≡ F (length (grow before))

  then-numbered : {A B : Type 0} (F : ℕ → B) (f g : Grows) (m : Check S A) (next : A → Check S B) → Counted size m f → ((a : A) → Numbered F g (next a)) → Numbered F (λ before. g (f before)) (m ▷ next)
  unfolding ◌▷◌
  then-numbered F f g m next h k s b t before e (a, mid, first, then) = k a mid b t (f before) (h s a mid before e first) then

  gives-is : {A : Type 0} (a b : A) (s t : S) → gives a s (Gives b) t → b ≡ a
  unfolding gives_some
  gives-is a b s t h = h.0

  module _ (atom : AtomDef → Place → Check S ℕ) (some : (A : Type 0) → (Atoms → A → Type 0) → Check S A)
      (atom_adds : (def : AtomDef) (at : Place) (s : S) (n : ℕ) (t : S) → atom def at s (Gives n) t → size t ≡ size s + 1)
      (atom_number : (def : AtomDef) (at : Place) (s : S) (n : ℕ) (t : S) → atom def at s (Gives n) t → n ≡ size s)
      (some_keeps : (A : Type 0) (P : Atoms → A → Type 0) (s : S) (a : A) (t : S) → some A P s (Gives a) t → size t ≡ size s) where
    -- an atom more, and then what is put together of its number
    atom-numbered : {A : Type 0} (F : ℕ → A) (def : AtomDef) (at : Place) → Numbered F as_before (atom def at ▷ λ n. gives (F n))
    unfolding ◌▷◌
    atom-numbered F def at s b t before e (n, mid, first, then) = gives-is (F n) b mid t then ∙ ap F (atom_number def at s n mid first ∙ e)

    arrow-numbered : (isolated : Bool) (fixed : List Ty) (rest : Option Ty) (result : SemType) (at : Place)
        → Numbered (λ n. plain (Atom n)) (one_more at) (arrow_by atom isolated fixed rest result at)
    arrow-numbered isolated fixed rest result at =
        then-numbered (λ n. plain (Atom n)) (one_more at) as_before _ _
        (λ s n t before e h. atom_adds (ListAtom fixed rest) at s n t h ∙ ap (λ k. k + 1) e ∙ sym (length-append before (at ∷ [])))
        (λ arguments. atom-numbered (λ n. plain (Atom n)) (Arrow (Atom arguments) result isolated) at)

    module _ (names : Names) (scope : Scope) where
      -- how many atoms a descriptor adds
      counted : (d : Descriptor) → Counted size (described_by atom some names scope d) (places d)
      counted = described-counted size atom some atom_adds some_keeps names scope

      all-are : (done : List Ty) (ds : Descriptors) → Counted size (all_by atom some names scope done ds) (all_places ds)
      all-are = all-counted size atom some atom_adds some_keeps names scope

      fields-are : (done : List FieldDef) (fs : FieldDescriptors) → Counted size (fields_by atom some names scope done fs) (field_places fs)
      fields-are = fields-counted size atom some atom_adds some_keeps names scope

      if-is : (m : MaybeDescriptor) → Counted size (if_by atom some names scope m) (places_if m)
      if-is = if-counted size atom some atom_adds some_keeps names scope

      result-is : (m : MaybeDescriptor) → Counted size (result_by atom some names scope m) (places_if m)
      result-is = result-counted size atom some atom_adds some_keeps names scope

-- ---- the table over two lists of names

module _ {S : Type 0} (size : S → ℕ) (atom : AtomDef → Place → Check S ℕ) (some : (A : Type 0) → (Atoms → A → Type 0) → Check S A)
    (atom_adds : (def : AtomDef) (at : Place) (s : S) (n : ℕ) (t : S) → atom def at s (Gives n) t → size t ≡ size s + 1)
    (atom_number : (def : AtomDef) (at : Place) (s : S) (n : ℕ) (t : S) → atom def at s (Gives n) t → n ≡ size s)
    (some_keeps : (A : Type 0) (P : Atoms → A → Type 0) (s : S) (a : A) (t : S) → some A P s (Gives a) t → size t ≡ size s)
    (final : Atoms) (some_holds : (A : Type 0) (P : Atoms → A → Type 0) (s : S) (a : A) (t : S) → some A P s (Gives a) t → P final a)
    (names others : Names) (scope : Scope) where
  -- the names outside lists, mappings, errors, functions and futures stand for the same
  abbrev pub AgreeOn : Descriptor → Type 0
  AgreeOn (builtin b) = ⊤
  AgreeOn (value v) = ⊤
  AgreeOn (named name) = (t u : Ty) → type_named names scope name ≡ Ok t → type_named others scope name ≡ Ok u → IsRewritten t final u
  AgreeOn (optional of) = AgreeOn of
  AgreeOn (union left right) = AgreeOn left × AgreeOn right
  AgreeOn (intersection left right) = AgreeOn left × AgreeOn right
  AgreeOn (array member at) = ⊤
  AgreeOn (repeated member n at) = ⊤
  AgreeOn (tuple members rest at) = ⊤
  AgreeOn (map_of member at) = ⊤
  AgreeOn (closed_record fields rest at) = ⊤
  AgreeOn (open_record fields at) = ⊤
  AgreeOn any_error = ⊤
  AgreeOn (error_with detail at) = ⊤
  AgreeOn (any_function isolated) = ⊤
  AgreeOn (function_from isolated params rest result at) = ⊤
  AgreeOn (future_of result at) = ⊤

  -- a name outside them stands for the same
  abbrev pub AreSame : Bool → QualifiedName → Type 0
  AreSame inside name = inside ≡ false → (t u : Ty) → type_named names scope name ≡ Ok t → type_named others scope name ≡ Ok u → IsRewritten t final u

  pub agree-on : (d : Descriptor) → IsClear AreSame false d → AgreeOn d
  agree-on (builtin b) h = tt
  agree-on (value v) h = tt
  agree-on (named name) h = h refl
  agree-on (optional of) h = agree-on of h
  agree-on (union left right) h = (agree-on left h.0, agree-on right h.1)
  agree-on (intersection left right) h = (agree-on left h.0, agree-on right h.1)
  agree-on (array member at) h = tt
  agree-on (repeated member n at) h = tt
  agree-on (tuple members rest at) h = tt
  agree-on (map_of member at) h = tt
  agree-on (closed_record fields rest at) h = tt
  agree-on (open_record fields at) h = tt
  agree-on any_error h = tt
  agree-on (error_with detail at) h = tt
  agree-on (any_function isolated) h = tt
  agree-on (function_from isolated params rest result at) h = tt
  agree-on (future_of result at) h = tt

  -- what two checks give from states of one size is the same
  abbrev AgreeBy : Check S Ty → Check S Ty → Type 0
  AgreeBy m k = (s n : S) (a b : Ty) (t l : S) (before : List Place) → size s ≡ length before → size n ≡ length before → m s (Gives a) t → k n (Gives b) l → IsRewritten a final b

  -- each is the type of an atom whose number turns on how many there are
  numbered-agree : (F : ℕ → Ty) (grow : Grows) (m k : Check S Ty) → Numbered size F grow m → Numbered size F grow k → AgreeBy m k
  numbered-agree F grow m k f g s n a b t l before e o h j = same-itself final a b (f s a t before e h ∙ sym (g n b l before o j))

  some-agree : (P Q : Atoms → Ty → Type 0) → ((a b : Ty) → P final a → Q final b → IsRewritten a final b) → AgreeBy (some Ty P) (some Ty Q)
  some-agree P Q f s n a b t l before e o h j = f a b (some_holds Ty P s a t h) (some_holds Ty Q n b l j)

  -- one check first, whose types agree
  then-agree : (f : Grows) (m k : Check S Ty) (next after : Ty → Check S Ty) → Counted size m f → Counted size k f → AgreeBy m k
      → ((a b : Ty) → IsRewritten a final b → AgreeBy (next a) (after b)) → AgreeBy (m ▷ next) (k ▷ after)
  unfolding ◌▷◌
  then-agree f m k next after mc kc agree go s n a b t l before e o (c, mid, first, then) (d, mid2, first2, then2) =
      go c d (agree s n c d mid mid2 before e o first first2) mid mid2 a b t l (f before) (mc s c mid before e first) (kc n d mid2 before o first2) then then2

  gives-agree : (c d : Ty) → IsRewritten c final d → AgreeBy (gives c) (gives d)
  gives-agree c d r s n a b t l before e o h j =
      subst (λ x. IsRewritten x final b) (sym (gives-is size c a s t h)) (subst (IsRewritten c final) (sym (gives-is size d b n l j)) r)

  named-agree : (r q : Result Ty FaultCode) (at : Place) → ((t u : Ty) → r ≡ Ok t → q ≡ Ok u → IsRewritten t final u) → AgreeBy (gives_named r at) (gives_named q at)
  unfolding gives_some refuses
  named-agree (Ok t) (Ok u) at agree s n a b x y before e o h j = same-copies final t u a b (agree t u refl refl) h.0 j.0
  named-agree (Ok t) (Err c) at agree s n a b x y before e o h j = absurd j
  named-agree (Err c) q at agree s n a b x y before e o h j = absurd h

  abbrev mine : Descriptor → Check S Ty
  mine = described_by atom some names scope

  abbrev theirs : Descriptor → Check S Ty
  theirs = described_by atom some others scope

  here : (d : Descriptor) → Counted size (described_by atom some names scope d) (places d)
  here = counted size atom some atom_adds atom_number some_keeps names scope

  there : (d : Descriptor) → Counted size (described_by atom some others scope d) (places d)
  there = counted size atom some atom_adds atom_number some_keeps others scope

  -- what each descriptor gives that needs an atom, over any names
  module _ (naming : Names) where
    of_names : (d : Descriptor) → Counted size (described_by atom some naming scope d) (places d)
    of_names = counted size atom some atom_adds atom_number some_keeps naming scope

    if_names : (m : MaybeDescriptor) → Counted size (if_by atom some naming scope m) (places_if m)
    if_names = if-is size atom some atom_adds atom_number some_keeps naming scope

    list-number : (fixed : List Ty) (rest : Option Ty) (at : Place) → Numbered size list_of as_before (list_by atom fixed rest at)
    list-number fixed rest at = atom-numbered size atom some atom_adds atom_number some_keeps list_of (ListAtom fixed rest) at

    mapping-number : (fields : List FieldDef) (rest : Option Ty) (at : Place) → Numbered size mapping_of as_before (mapping_by atom fields rest at)
    mapping-number fields rest at = atom-numbered size atom some atom_adds atom_number some_keeps mapping_of (MappingAtom fields rest) at

    plain-number : (def : AtomDef) (at : Place) → Numbered size (λ n. plain (Atom n)) as_before (plain_by atom def at)
    plain-number def at = atom-numbered size atom some atom_adds atom_number some_keeps (λ n. plain (Atom n)) def at

    array-number : (member : Descriptor) (at : Place) → Numbered size list_of (places member) (described_by atom some naming scope (array member at))
    array-number member at = then-numbered size list_of (places member) as_before _ _ (of_names member) (λ t. list-number [] (Some t) at)

    copies-number : (member : Descriptor) (n : ℤ) (at : Place) → Numbered size list_of (places member) (described_by atom some naming scope (repeated member n at))
    copies-number member n at = then-numbered size list_of (places member) as_before _ _ (of_names member)
        (λ t. then-numbered size list_of as_before as_before _ _ (λ s a u before e h. some_keeps (List Ty) (AreCopies (count_of n) t) s a u h ∙ e) (λ copies. list-number copies None at))

    tuple-number : (members : Descriptors) (rest : MaybeDescriptor) (at : Place)
        → Numbered size list_of (λ before. places_if rest (all_places members before)) (described_by atom some naming scope (tuple members rest at))
    tuple-number members rest at = then-numbered size list_of (all_places members) (places_if rest) _ _ (all-are size atom some atom_adds atom_number some_keeps naming scope [] members)
        (λ fixed. then-numbered size list_of (places_if rest) as_before _ _ (if_names rest) (λ r. list-number fixed r at))

    map-number : (member : Descriptor) (at : Place) → Numbered size mapping_of (places member) (described_by atom some naming scope (map_of member at))
    map-number member at = then-numbered size mapping_of (places member) as_before _ _ (of_names member) (λ t. mapping-number [] (Some t) at)

    closed-number : (fields : FieldDescriptors) (rest : MaybeDescriptor) (at : Place)
        → Numbered size mapping_of (λ before. places_if rest (field_places fields before)) (described_by atom some naming scope (closed_record fields rest at))
    closed-number fields rest at = then-numbered size mapping_of (field_places fields) (places_if rest) _ _ (fields-are size atom some atom_adds atom_number some_keeps naming scope [] fields)
        (λ fs. then-numbered size mapping_of (places_if rest) as_before _ _ (if_names rest) (λ r. mapping-number fs r at))

    open-number : (fields : FieldDescriptors) (at : Place) → Numbered size mapping_of (field_places fields) (described_by atom some naming scope (open_record fields at))
    open-number fields at = then-numbered size mapping_of (field_places fields) as_before _ _ (fields-are size atom some atom_adds atom_number some_keeps naming scope [] fields)
        (λ fs. then-numbered size mapping_of as_before as_before _ _ (λ s a u before e h. some_keeps Ty (IsBuiltin AnyDataWord) s a u h ∙ e) (λ r. mapping-number fs (Some r) at))

    error-number : (detail : Descriptor) (at : Place) → Numbered size (λ n. plain (Atom n)) (places detail) (described_by atom some naming scope (error_with detail at))
    error-number detail at = then-numbered size (λ n. plain (Atom n)) (places detail) as_before _ _ (of_names detail) (λ t. plain-number (ErrorAtom t.sem) at)

    future-number : (result : Descriptor) (at : Place) → Numbered size (λ n. plain (Atom n)) (places result) (described_by atom some naming scope (future_of result at))
    future-number result at = then-numbered size (λ n. plain (Atom n)) (places result) as_before _ _ (of_names result) (λ t. plain-number (FutureAtom t.sem) at)

    function-number : (isolated : Bool) (params : Descriptors) (rest result : MaybeDescriptor) (at : Place)
        → Numbered size (λ n. plain (Atom n)) (λ before. one_more at (places_if result (places_if rest (all_places params before)))) (described_by atom some naming scope (function_from isolated params rest result at))
    function-number isolated params rest result at =
        then-numbered size (λ n. plain (Atom n)) (λ before. places_if rest (all_places params before)) (λ before. one_more at (places_if result before)) _ _
        (then-counted size (all_places params) (places_if rest) _ _ (all-are size atom some atom_adds atom_number some_keeps naming scope [] params)
        (λ fixed. then-counted size (places_if rest) as_before _ _ (if_names rest) (λ r. gives-counted size (params_of fixed r))))
        (λ ps. then-numbered size (λ n. plain (Atom n)) (places_if result) (one_more at) _ _ (result-is size atom some atom_adds atom_number some_keeps naming scope result)
        (λ out. arrow-numbered size atom some atom_adds atom_number some_keeps isolated ps.0 ps.1 out.sem at))

  -- two runs from states of one size give the same
  pub described-agree : (d : Descriptor) → AgreeOn d → AgreeBy (described_by atom some names scope d) (described_by atom some others scope d)
  described-agree (builtin b) on = some-agree (IsBuiltin b) (IsBuiltin b) (same-builtin final b)
  described-agree (value v) on = gives-agree (plain (Basic (value_set v))) (plain (Basic (value_set v))) (same-itself final _ _ refl)
  described-agree (named name) on = named-agree (type_named names scope name) (type_named others scope name) name.at on
  described-agree (optional of) on =
      then-agree (places of) (mine of) (theirs of) (λ t. some Ty (IsOptional t)) (λ t. some Ty (IsOptional t)) (here of) (there of) (described-agree of on) (λ s t r. some-agree (IsOptional s) (IsOptional t) (λ a b. same-optional final s t a b r))
  described-agree (union left right) on =
      then-agree (places left) (mine left) (theirs left) (λ s. mine right ▷ λ t. some Ty (IsUnion s t)) (λ s. theirs right ▷ λ t. some Ty (IsUnion s t)) (here left) (there left)
      (described-agree left on.0)
      (λ s u r. then-agree (places right) (mine right) (theirs right) (λ t. some Ty (IsUnion s t)) (λ v. some Ty (IsUnion u v)) (here right) (there right) (described-agree right on.1)
      (λ t v q. some-agree (IsUnion s t) (IsUnion u v) (λ a b. same-union final s t u v a b r q)))
  described-agree (intersection left right) on =
      then-agree (places left) (mine left) (theirs left) (λ s. mine right ▷ λ t. some Ty (IsIntersection (is_readonly right) s t))
      (λ s. theirs right ▷ λ t. some Ty (IsIntersection (is_readonly right) s t)) (here left) (there left) (described-agree left on.0)
      (λ s u r. then-agree (places right) (mine right) (theirs right) (λ t. some Ty (IsIntersection (is_readonly right) s t)) (λ v. some Ty (IsIntersection (is_readonly right) u v))
      (here right) (there right) (described-agree right on.1)
      (λ t v q. some-agree (IsIntersection (is_readonly right) s t) (IsIntersection (is_readonly right) u v) (λ a b. same-intersection final (is_readonly right) s t u v a b r q)))
  described-agree (array member at) on = numbered-agree list_of (places member) (mine (array member at)) (theirs (array member at)) (array-number names member at) (array-number others member at)
  described-agree (repeated member n at) on = numbered-agree list_of (places member) (mine (repeated member n at)) (theirs (repeated member n at)) (copies-number names member n at) (copies-number others member n at)
  described-agree (tuple members rest at) on =
      numbered-agree list_of (λ before. places_if rest (all_places members before)) (mine (tuple members rest at)) (theirs (tuple members rest at)) (tuple-number names members rest at) (tuple-number others members rest at)
  described-agree (map_of member at) on = numbered-agree mapping_of (places member) (mine (map_of member at)) (theirs (map_of member at)) (map-number names member at) (map-number others member at)
  described-agree (closed_record fields rest at) on =
      numbered-agree mapping_of (λ before. places_if rest (field_places fields before)) (mine (closed_record fields rest at)) (theirs (closed_record fields rest at)) (closed-number names fields rest at) (closed-number others fields rest at)
  described-agree (open_record fields at) on = numbered-agree mapping_of (field_places fields) (mine (open_record fields at)) (theirs (open_record fields at)) (open-number names fields at) (open-number others fields at)
  described-agree any_error on = gives-agree (plain (Basic ErrorAll)) (plain (Basic ErrorAll)) (same-itself final _ _ refl)
  described-agree (error_with detail at) on = numbered-agree (λ n. plain (Atom n)) (places detail) (mine (error_with detail at)) (theirs (error_with detail at)) (error-number names detail at) (error-number others detail at)
  described-agree (any_function isolated) on = some-agree (IsAnyFunction isolated) (IsAnyFunction isolated) (same-function final isolated)
  described-agree (function_from isolated params rest result at) on =
      numbered-agree (λ n. plain (Atom n)) (λ before. one_more at (places_if result (places_if rest (all_places params before)))) (mine (function_from isolated params rest result at)) (theirs (function_from isolated params rest result at))
      (function-number names isolated params rest result at) (function-number others isolated params rest result at)
  described-agree (future_of result at) on = numbered-agree (λ n. plain (Atom n)) (places result) (mine (future_of result at)) (theirs (future_of result at)) (future-number names result at) (future-number others result at)
