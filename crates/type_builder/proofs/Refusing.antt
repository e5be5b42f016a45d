-- Where names hold, a reading of the table refuses for want of room for atoms alone.
use Rattle.std.proofs.Common.{◌≡◌, ◌<◌, ◌≤◌, ℕ, ◌+◌, Bool, true, false, List, [], ◌∷◌, ◌++◌, length, length-append, Option, None, Some, Result, Ok, inl, inr, refl, sym, ap, subst, ◌∙◌, arith}
use Rattle.std.specs.List.{list_any}
use Rattle.std.proofs.lemmas.List.{map-append}
use Rattle.bal_base.specs.declared.fault.Fault.{Fault}
use Rattle.bal_base.specs.declared.fault.FaultCode.{FaultCode}
use Rattle.bal_base.specs.declared.fault.FaultCode.TheVariants.{Duplicate}
use Rattle.bal_base.specs.declared.fault.Kept.TheVariants.{Nothing}
use Rattle.bal_base.specs.declared.limits.TheConstants.{MOST_ATOMS}
use Rattle.bal_base.specs.declared.place.Place.{Place}
use Rattle.bal_base.specs.declared.text.Name.{Name}
use Rattle.bal_base.specs.declared.text.Text.{Text}
use Rattle.bal_tree.specs.declared.name.QualifiedName.{QualifiedName}
use Rattle.bal_tree.specs.declared.name.Word.{Word}
use Rattle.bal_tree.specs.declared.types.BuiltinType.TheVariants.{AnyData as AnyDataWord}
use Rattle.type_model.specs.declared.atoms.AtomDef.{AtomDef}
use Rattle.type_model.specs.declared.atoms.AtomDef.TheVariants.{List as ListAtom, Mapping as MappingAtom, Arrow, Error as ErrorAtom, Future as FutureAtom}
use Rattle.type_model.specs.declared.atoms.FieldDef.{FieldDef}
use Rattle.type_model.specs.declared.basic.BasicSet.TheVariants.{ErrorAll, Nil as NilOnly}
use Rattle.type_model.specs.declared.basic.SemType.{SemType, Basic, Atom}
use Rattle.type_model.specs.declared.basic.Ty.{Ty}
use Rattle.type_model.specs.Places.{is_same_text}
use Rattle.checks.specs.Checks.{Check, Gives, Refuses, either, gives, gives_some, refuses, ◌▷◌}
use Rattle.checks.specs.Questions.{IsFault}
use Rattle.descriptors.specs.declared.names.Names.{Names}
use Rattle.descriptors.specs.declared.names.Scope.{Scope}
use Rattle.descriptors.specs.Descriptors.{Descriptor, builtin, value, named, optional, union, intersection, array, repeated, tuple, map_of, closed_record, open_record, any_error, error_with, any_function, function_from, future_of, Descriptors, no_more, then_more, FieldDescriptors, no_field, then_field, MaybeDescriptor, absent, present, is_readonly}
use Rattle.descriptors.specs.Described.{Atoms, AreCopies, IsAnyFunction, IsBuiltin, IsIntersection, IsOptional, IsUnion, all_by, arrow_by, count_of, described_by, field_of, fields_by, gives_named, if_by, list_by, list_of, mapping_by, mapping_of, names_of, new_field, params_of, plain, plain_by, result_by, value_set}
use Rattle.descriptors.specs.Naming.{type_named}
use Rattle.name_resolution.specs.Clear.{AreClear, HaveClear, IsClear, IsClearIf}
use Rattle.type_builder.specs.AtomPlaces.{all_places, field_places, places, places_if}
use Rattle.type_builder.proofs.Counting.{Counted, Grows, all-counted, as_before, described-counted, field-counted, fields-counted, gives-counted, if-counted, one_more, result-counted, then-counted}
use Rattle.type_builder.proofs.Growing.{Grown, all-grow, fields-grow, if-grow, places-grow, then-one}

-- size: how many atoms there are in a state
module _ {S : Type 0} (size : S → ℕ) where
  -- a refusal comes only where there would be too many atoms
  abbrev pub Refusing : {A : Type 0} → Check S A → Grows → Type 0
  Refusing m grow = (s : S) (f : Fault) (t : S) (before : List Place) → size s ≡ length before → m s (Refuses f) t → MOST_ATOMS < length (grow before)

  pub then-refusing : {A B : Type 0} (f g : Grows) (m : Check S A) (next : A → Check S B) → Counted size m f → Refusing m f → Grown g → ((a : A) → Refusing (next a) g)
      → Refusing (m ▷ next) (λ before. g (f before))
  unfolding ◌▷◌
  then-refusing f g m next counted first grown rest s e t before same (inl h) =
      let left : MOST_ATOMS < length (f before) = first s e t before same h in
      let right : length (f before) ≤ length (g (f before)) = grown (f before) in omega (arith, left, right)
  then-refusing f g m next counted first grown rest s e t before same (inr (a, mid, h, j)) = rest a mid e t (f before) (counted s a mid before same h) j

  -- the same, where what follows turns on what the first gave
  then-refusing-of : {A B : Type 0} (f g : Grows) (m : Check S A) (next : A → Check S B) → Counted size m f → Refusing m f → Grown g
      → ((a : A) (s t : S) → m s (Gives a) t → Refusing (next a) g) → Refusing (m ▷ next) (λ before. g (f before))
  unfolding ◌▷◌
  then-refusing-of f g m next counted first grown rest s e t before same (inl h) =
      let left : MOST_ATOMS < length (f before) = first s e t before same h in
      let right : length (f before) ≤ length (g (f before)) = grown (f before) in omega (arith, left, right)
  then-refusing-of f g m next counted first grown rest s e t before same (inr (a, mid, h, j)) = rest a s mid h mid e t (f before) (counted s a mid before same h) j

  -- what a field is given
  field-is : (taken : List Text) (name : Word) (may_lack : Bool) (t : Ty) (s : S) (field : FieldDef) (u : S) → list_any (is_same_text name.name) taken ≡ false
      → new_field taken name may_lack t s (Gives field) u → field ≡ field_of name may_lack t
  unfolding gives_some
  field-is taken name may_lack t s field u e h =
      (subst (λ b. either b (refuses (λ s f. IsFault Duplicate (Some name.at) Nothing f)) (gives (field_of name may_lack t)) s (Gives field) u) e h).0

  -- the same behind the type of the field
  then-field : (taken : List Text) (name : Word) (may_lack : Bool) (m : Check S Ty) (s : S) (field : FieldDef) (u : S) → list_any (is_same_text name.name) taken ≡ false
      → (m ▷ λ t. new_field taken name may_lack t) s (Gives field) u → field.name ≡ name.name
  unfolding ◌▷◌
  then-field taken name may_lack m s field u e (t, mid, first, then) = ap (λ f. f.name) (field-is taken name may_lack t mid field u e then)

  pub some-refusing : {A : Type 0} (P : S → A → Type 0) → Refusing (gives_some P) as_before
  unfolding gives_some
  some-refusing P s f t before e h = absurd h

  pub gives-refusing : {A : Type 0} (a : A) → Refusing (gives a) as_before
  gives-refusing a = some-refusing (λ s b. b ≡ a)

  named-refusing : (r : Result Ty FaultCode) (at : Place) (u : Ty) → r ≡ Ok u → Refusing (gives_named r at) as_before
  named-refusing r at u e = subst (λ q. Refusing (gives_named q at) as_before) (sym e) (some-refusing _)

  field-refusing : (taken : List Text) (name : Word) (may_lack : Bool) (t : Ty) → list_any (is_same_text name.name) taken ≡ false → Refusing (new_field taken name may_lack t) as_before
  field-refusing taken name may_lack t e =
      subst (λ b. Refusing (either b (refuses (λ s. IsFault Duplicate (Some name.at) Nothing)) (gives (field_of name may_lack t))) as_before) (sym e) (gives-refusing (field_of name may_lack t))

  module _ (atom : AtomDef → Place → Check S ℕ) (some : (A : Type 0) → (Atoms → A → Type 0) → Check S A)
      (atom_adds : (def : AtomDef) (at : Place) (s : S) (n : ℕ) (t : S) → atom def at s (Gives n) t → size t ≡ size s + 1)
      (some_keeps : (A : Type 0) (P : Atoms → A → Type 0) (s : S) (a : A) (t : S) → some A P s (Gives a) t → size t ≡ size s)
      (atom_refuses : (def : AtomDef) (at : Place) (s : S) (f : Fault) (t : S) → atom def at s (Refuses f) t → MOST_ATOMS ≤ size s)
      (some_gives : (A : Type 0) (P : Atoms → A → Type 0) (s : S) (f : Fault) (t : S) → some A P s (Refuses f) t → ⊥)
      (names : Names) (scope : Scope) where
    -- each name stands for a type
    abbrev pub Stands : Bool → QualifiedName → Type 0
    Stands inside name = (t : Ty) × (type_named names scope name ≡ Ok t)

    pub some-holds : (A : Type 0) (P : Atoms → A → Type 0) → Refusing (some A P) as_before
    some-holds A P s f t before e h = absurd (some_gives A P s f t h)

    some-same : (A : Type 0) (P : Atoms → A → Type 0) → Counted size (some A P) as_before
    some-same A P s a t before e h = some_keeps A P s a t h ∙ e

    atom-counted : (def : AtomDef) (at : Place) → Counted size (atom def at) (one_more at)
    atom-counted def at s n t before e h = atom_adds def at s n t h ∙ ap (λ k. k + 1) e ∙ sym (length-append before (at ∷ []))

    pub atom-refusing : (def : AtomDef) (at : Place) → Refusing (atom def at) (one_more at)
    atom-refusing def at s f t before e h =
        let most : MOST_ATOMS ≤ size s = atom_refuses def at s f t h in
        let long : length (before ++ at ∷ []) ≡ length before + 1 = length-append before (at ∷ []) in omega (arith, most, e, long)

    pub same-grown : Grown as_before
    same-grown before = omega arith

    pub one-grown : (at : Place) → Grown (one_more at)
    one-grown at = then-one as_before at same-grown

    list-refusing : (fixed : List Ty) (rest : Option Ty) (at : Place) → Refusing (list_by atom fixed rest at) (one_more at)
    list-refusing fixed rest at = then-refusing (one_more at) as_before _ _ (atom-counted (ListAtom fixed rest) at) (atom-refusing (ListAtom fixed rest) at) same-grown (λ n. gives-refusing (list_of n))

    mapping-refusing : (fields : List FieldDef) (rest : Option Ty) (at : Place) → Refusing (mapping_by atom fields rest at) (one_more at)
    mapping-refusing fields rest at =
        then-refusing (one_more at) as_before _ _ (atom-counted (MappingAtom fields rest) at) (atom-refusing (MappingAtom fields rest) at) same-grown (λ n. gives-refusing (mapping_of n))

    plain-refusing : (def : AtomDef) (at : Place) → Refusing (plain_by atom def at) (one_more at)
    plain-refusing def at = then-refusing (one_more at) as_before _ _ (atom-counted def at) (atom-refusing def at) same-grown (λ n. gives-refusing (plain (Atom n)))

    pub arrow-refusing : (isolated : Bool) (fixed : List Ty) (rest : Option Ty) (result : SemType) (at : Place)
        → Refusing (arrow_by atom isolated fixed rest result at) (λ before. one_more at (one_more at before))
    arrow-refusing isolated fixed rest result at =
        then-refusing (one_more at) (one_more at) _ _ (atom-counted (ListAtom fixed rest) at) (atom-refusing (ListAtom fixed rest) at) (one-grown at)
        (λ arguments. plain-refusing (Arrow (Atom arguments) result isolated) at)

    pub of-descriptor : (d : Descriptor) → Counted size (described_by atom some names scope d) (places d)
    of-descriptor = described-counted size atom some atom_adds some_keeps names scope

    pub of-all : (done : List Ty) (ds : Descriptors) → Counted size (all_by atom some names scope done ds) (all_places ds)
    of-all = all-counted size atom some atom_adds some_keeps names scope

    of-fields : (done : List FieldDef) (fs : FieldDescriptors) → Counted size (fields_by atom some names scope done fs) (field_places fs)
    of-fields = fields-counted size atom some atom_adds some_keeps names scope

    of-field : (taken : List Text) (name : Word) (may_lack : Bool) (t : Ty) → Counted size (new_field taken name may_lack t) as_before
    of-field = field-counted size

    pub of-if : (m : MaybeDescriptor) → Counted size (if_by atom some names scope m) (places_if m)
    of-if = if-counted size atom some atom_adds some_keeps names scope

    pub of-result : (m : MaybeDescriptor) → Counted size (result_by atom some names scope m) (places_if m)
    of-result = result-counted size atom some atom_adds some_keeps names scope

    -- one descriptor, and then what adds one atom
    then-one-atom : {A B : Type 0} (f : Grows) (at : Place) (m : Check S A) (next : A → Check S B) → Counted size m f → Refusing m f → ((a : A) → Refusing (next a) (one_more at))
        → Refusing (m ▷ next) (λ before. one_more at (f before))
    then-one-atom f at m next counted first rest = then-refusing f (one_more at) m next counted first (one-grown at) rest

    mutual
      pub described-refusing : (inside : Bool) (d : Descriptor) → IsClear Stands inside d → Refusing (described_by atom some names scope d) (places d)
      described-refusing inside (builtin b) h = some-holds Ty (IsBuiltin b)
      described-refusing inside (value v) h = gives-refusing (plain (Basic (value_set v)))
      described-refusing inside (named name) (u, e) = named-refusing (type_named names scope name) name.at u e
      described-refusing inside (optional of) h =
          then-refusing (places of) as_before _ _ (of-descriptor of) (described-refusing inside of h) same-grown (λ t. some-holds Ty (IsOptional t))
      described-refusing inside (union left right) h =
          then-refusing (places left) (places right) _ _ (of-descriptor left) (described-refusing inside left h.0) (places-grow right)
          (λ s. then-refusing (places right) as_before _ _ (of-descriptor right) (described-refusing inside right h.1) same-grown (λ t. some-holds Ty (IsUnion s t)))
      described-refusing inside (intersection left right) h =
          then-refusing (places left) (places right) _ _ (of-descriptor left) (described-refusing inside left h.0) (places-grow right)
          (λ s. then-refusing (places right) as_before _ _ (of-descriptor right) (described-refusing inside right h.1) same-grown (λ t. some-holds Ty (IsIntersection (is_readonly right) s t)))
      described-refusing inside (array member at) h =
          then-one-atom (places member) at _ _ (of-descriptor member) (described-refusing true member h) (λ t. list-refusing [] (Some t) at)
      described-refusing inside (repeated member n at) h =
          then-one-atom (places member) at _ _ (of-descriptor member) (described-refusing true member h)
          (λ t. then-one-atom as_before at _ _ (some-same (List Ty) (AreCopies (count_of n) t)) (some-holds (List Ty) (AreCopies (count_of n) t)) (λ copies. list-refusing copies None at))
      described-refusing inside (tuple members rest at) h =
          then-refusing (all_places members) (λ before. one_more at (places_if rest before)) _ _ (of-all [] members) (all-refusing true [] members h.0)
          (then-one (places_if rest) at (if-grow rest))
          (λ fixed. then-one-atom (places_if rest) at _ _ (of-if rest) (if-refusing true rest h.1) (λ r. list-refusing fixed r at))
      described-refusing inside (map_of member at) h =
          then-one-atom (places member) at _ _ (of-descriptor member) (described-refusing true member h) (λ t. mapping-refusing [] (Some t) at)
      described-refusing inside (closed_record fields rest at) h =
          then-refusing (field_places fields) (λ before. one_more at (places_if rest before)) _ _ (of-fields [] fields) (fields-refusing [] [] refl fields h.0)
          (then-one (places_if rest) at (if-grow rest))
          (λ fs. then-one-atom (places_if rest) at _ _ (of-if rest) (if-refusing true rest h.1) (λ r. mapping-refusing fs r at))
      described-refusing inside (open_record fields at) h =
          then-one-atom (field_places fields) at _ _ (of-fields [] fields) (fields-refusing [] [] refl fields h)
          (λ fs. then-one-atom as_before at _ _ (some-same Ty (IsBuiltin AnyDataWord)) (some-holds Ty (IsBuiltin AnyDataWord)) (λ r. mapping-refusing fs (Some r) at))
      described-refusing inside any_error h = gives-refusing (plain (Basic ErrorAll))
      described-refusing inside (error_with detail at) h =
          then-one-atom (places detail) at _ _ (of-descriptor detail) (described-refusing true detail h) (λ t. plain-refusing (ErrorAtom t.sem) at)
      described-refusing inside (any_function isolated) h = some-holds Ty (IsAnyFunction isolated)
      described-refusing inside (function_from isolated params rest result at) h =
          then-refusing (λ before. places_if rest (all_places params before)) (λ before. one_more at (one_more at (places_if result before))) _ _
          (then-counted size (all_places params) (places_if rest) _ _ (of-all [] params) (λ fixed. then-counted size (places_if rest) as_before _ _ (of-if rest) (λ r. gives-counted size (params_of fixed r))))
          (then-refusing (all_places params) (places_if rest) _ _ (of-all [] params) (all-refusing true [] params h.0) (if-grow rest)
          (λ fixed. then-refusing (places_if rest) as_before _ _ (of-if rest) (if-refusing true rest h.1) same-grown (λ r. gives-refusing (params_of fixed r))))
          (then-one (λ before. one_more at (places_if result before)) at (then-one (places_if result) at (if-grow result)))
          (λ ps. then-refusing (places_if result) (λ before. one_more at (one_more at before)) _ _ (of-result result) (result-refusing true result h.2)
          (then-one (one_more at) at (one-grown at)) (λ out. arrow-refusing isolated ps.0 ps.1 out.sem at))
      described-refusing inside (future_of result at) h =
          then-one-atom (places result) at _ _ (of-descriptor result) (described-refusing true result h) (λ t. plain-refusing (FutureAtom t.sem) at)

      pub all-refusing : (inside : Bool) (done : List Ty) (ds : Descriptors) → AreClear Stands inside ds → Refusing (all_by atom some names scope done ds) (all_places ds)
      all-refusing inside done no_more h = gives-refusing done
      all-refusing inside done (then_more d ds) h =
          then-refusing (places d) (all_places ds) _ _ (of-descriptor d) (described-refusing inside d h.0) (all-grow ds) (λ t. all-refusing inside (done ++ t ∷ []) ds h.1)

      pub fields-refusing : (done : List FieldDef) (earlier : List Name) → names_of done ≡ earlier → (fs : FieldDescriptors) → HaveClear Stands earlier fs
          → Refusing (fields_by atom some names scope done fs) (field_places fs)
      fields-refusing done earlier e no_field h = gives-refusing done
      fields-refusing done earlier e (then_field name may_lack d fs) h =
          then-refusing-of (places d) (field_places fs) _ _
          (then-counted size (places d) as_before _ _ (of-descriptor d) (λ t. of-field (names_of done) name may_lack t))
          (then-refusing (places d) as_before _ _ (of-descriptor d) (described-refusing true d h.1) same-grown (λ t. field-refusing (names_of done) name may_lack t free))
          (fields-grow fs) (λ field s t came. fields-refusing (done ++ field ∷ []) (earlier ++ name.name ∷ []) (more field s t came) fs h.2)
        where
          free : list_any (is_same_text name.name) (names_of done) ≡ false
          free = ap (list_any (is_same_text name.name)) e ∙ h.0

          more : (field : FieldDef) (s t : S) → (described_by atom some names scope d ▷ λ u. new_field (names_of done) name may_lack u) s (Gives field) t
              → names_of (done ++ field ∷ []) ≡ earlier ++ name.name ∷ []
          more field s t came = map-append (λ f. f.name) done (field ∷ []) ∙ ap (λ ns. ns ++ field.name ∷ []) e ∙ ap (λ n. earlier ++ n ∷ []) (then-field (names_of done) name may_lack _ s field t free came)

      pub if-refusing : (inside : Bool) (m : MaybeDescriptor) → IsClearIf Stands inside m → Refusing (if_by atom some names scope m) (places_if m)
      if-refusing inside absent h = gives-refusing None
      if-refusing inside (present d) h = then-refusing (places d) as_before _ _ (of-descriptor d) (described-refusing inside d h) same-grown (λ t. gives-refusing (Some t))

      pub result-refusing : (inside : Bool) (m : MaybeDescriptor) → IsClearIf Stands inside m → Refusing (result_by atom some names scope m) (places_if m)
      result-refusing inside absent h = gives-refusing (plain (Basic NilOnly))
      result-refusing inside (present d) h = described-refusing inside d h
