-- A reading of the table adds an atom at each place at which a descriptor needs one.
use Rattle.std.proofs.Common.{◌≡◌, ℕ, ◌+◌, Bool, true, false, List, [], ◌∷◌, ◌++◌, length, length-append, Option, None, Some, Result, Ok, Err, sym, ap, ◌∙◌}
use Rattle.std.specs.List.{list_any}
use Rattle.bal_base.specs.declared.fault.Fault.{Fault}
use Rattle.bal_base.specs.declared.fault.FaultCode.{FaultCode}
use Rattle.bal_base.specs.declared.fault.FaultCode.TheVariants.{Duplicate}
use Rattle.bal_base.specs.declared.fault.Kept.TheVariants.{Nothing}
use Rattle.bal_base.specs.declared.place.Place.{Place}
use Rattle.bal_base.specs.declared.text.Text.{Text}
use Rattle.bal_tree.specs.declared.name.Word.{Word}
use Rattle.bal_tree.specs.declared.types.BuiltinType.TheVariants.{AnyData as AnyDataWord}
use Rattle.type_model.specs.declared.atoms.AtomDef.{AtomDef}
use Rattle.type_model.specs.declared.atoms.AtomDef.TheVariants.{List as ListAtom, Mapping as MappingAtom, Arrow, Error as ErrorAtom, Future as FutureAtom}
use Rattle.type_model.specs.declared.atoms.FieldDef.{FieldDef}
use Rattle.type_model.specs.declared.basic.BasicSet.TheVariants.{ErrorAll, Nil as NilOnly}
use Rattle.type_model.specs.declared.basic.SemType.{SemType, Basic, Atom}
use Rattle.type_model.specs.declared.basic.Ty.{Ty}
use Rattle.type_model.specs.Places.{is_same_text}
use Rattle.checks.specs.Checks.{Check, Gives, either, gives, gives_some, refuses, ◌▷◌}
use Rattle.checks.specs.Questions.{IsFault}
use Rattle.descriptors.specs.declared.names.Names.{Names}
use Rattle.descriptors.specs.declared.names.Scope.{Scope}
use Rattle.type_builder.specs.AtomPlaces.{all_places, field_places, places, places_if}
use Rattle.descriptors.specs.Descriptors.{Descriptor, builtin, value, named, optional, union, intersection, array, repeated, tuple, map_of, closed_record, open_record, any_error, error_with, any_function, function_from, future_of, Descriptors, no_more, then_more, FieldDescriptors, no_field, then_field, MaybeDescriptor, absent, present, is_readonly}
use Rattle.descriptors.specs.Described.{Atoms, AreCopies, IsAnyFunction, IsBuiltin, IsIntersection, IsOptional, IsUnion, all_by, arrow_by, count_of, described_by, field_of, fields_by, gives_named, if_by, list_by, list_of, mapping_by, mapping_of, names_of, new_field, params_of, plain, plain_by, result_by, value_set}
use Rattle.descriptors.specs.Naming.{type_named}

abbrev pub Grows : Type 0
Grows = List Place → List Place

abbrev pub as_before : Grows
as_before before = before

abbrev pub one_more : Place → Grows
one_more at before = before ++ at ∷ []

-- size: how many atoms there are in a state
module _ {S : Type 0} (size : S → ℕ) where
  -- what is given adds as many atoms as the list of places grows
  abbrev pub Counted : {A : Type 0} → Check S A → Grows → Type 0
  Counted {A} m grow = (s : S) (a : A) (t : S) (before : List Place) → size s ≡ length before → m s (Gives a) t → size t ≡ length (grow before)

  pub then-counted : {A B : Type 0} (f g : Grows) (m : Check S A) (next : A → Check S B) → Counted m f → ((a : A) → Counted (next a) g) → Counted (m ▷ next) (λ before. g (f before))
  unfolding ◌▷◌
  then-counted f g m next h k s b t before e (a, mid, first, then) = k a mid b t (f before) (h s a mid before e first) then

  pub some-counted : {A : Type 0} (P : A → Type 0) → Counted (gives_some (λ s. P)) as_before
  unfolding gives_some
  some-counted P s a t before e (h, same) = ap size same ∙ e

  refused-counted : {A : Type 0} (P : Fault → Type 0) → Counted (refuses {A = A} (λ s. P)) as_before
  unfolding refuses
  refused-counted P s a t before e h = absurd h

  pub gives-counted : {A : Type 0} (a : A) → Counted (gives a) as_before
  gives-counted a = some-counted (λ b. b ≡ a)

  named-counted : (r : Result Ty FaultCode) (at : Place) → Counted (gives_named r at) as_before
  named-counted (Ok t) at = some-counted _
  named-counted (Err code) at = refused-counted _

  pub field-counted : (taken : List Text) (name : Word) (may_lack : Bool) (t : Ty) → Counted (new_field taken name may_lack t) as_before
  field-counted taken name may_lack t = go (list_any (is_same_text name.name) taken)
    where
      go : (b : Bool) → Counted (either b (refuses (λ s. IsFault Duplicate (Some name.at) Nothing)) (gives (field_of name may_lack t))) as_before
      go true = refused-counted (IsFault Duplicate (Some name.at) Nothing)
      go false = gives-counted (field_of name may_lack t)

  module _ (atom : AtomDef → Place → Check S ℕ) (some : (A : Type 0) → (Atoms → A → Type 0) → Check S A)
      (atom_adds : (def : AtomDef) (at : Place) (s : S) (n : ℕ) (t : S) → atom def at s (Gives n) t → size t ≡ size s + 1)
      (some_keeps : (A : Type 0) (P : Atoms → A → Type 0) (s : S) (a : A) (t : S) → some A P s (Gives a) t → size t ≡ size s)
      (names : Names) (scope : Scope) where
    pub some-same : (A : Type 0) (P : Atoms → A → Type 0) → Counted (some A P) as_before
    some-same A P s a t before e h = some_keeps A P s a t h ∙ e

    pub atom-counted : (def : AtomDef) (at : Place) → Counted (atom def at) (one_more at)
    atom-counted def at s n t before e h = atom_adds def at s n t h ∙ ap (λ k. k + 1) e ∙ sym (length-append before (at ∷ []))

    list-counted : (fixed : List Ty) (rest : Option Ty) (at : Place) → Counted (list_by atom fixed rest at) (one_more at)
    list-counted fixed rest at = then-counted (one_more at) as_before _ _ (atom-counted (ListAtom fixed rest) at) (λ n. gives-counted (list_of n))

    mapping-counted : (fields : List FieldDef) (rest : Option Ty) (at : Place) → Counted (mapping_by atom fields rest at) (one_more at)
    mapping-counted fields rest at = then-counted (one_more at) as_before _ _ (atom-counted (MappingAtom fields rest) at) (λ n. gives-counted (mapping_of n))

    plain-counted : (def : AtomDef) (at : Place) → Counted (plain_by atom def at) (one_more at)
    plain-counted def at = then-counted (one_more at) as_before _ _ (atom-counted def at) (λ n. gives-counted (plain (Atom n)))

    pub arrow-counted : (isolated : Bool) (fixed : List Ty) (rest : Option Ty) (result : SemType) (at : Place)
        → Counted (arrow_by atom isolated fixed rest result at) (λ before. one_more at (one_more at before))
    arrow-counted isolated fixed rest result at =
        then-counted (one_more at) (one_more at) _ _ (atom-counted (ListAtom fixed rest) at) (λ arguments. plain-counted (Arrow (Atom arguments) result isolated) at)

    mutual
      pub described-counted : (d : Descriptor) → Counted (described_by atom some names scope d) (places d)
      described-counted (builtin b) = some-same Ty (IsBuiltin b)
      described-counted (value v) = gives-counted (plain (Basic (value_set v)))
      described-counted (named name) = named-counted (type_named names scope name) name.at
      described-counted (optional of) = then-counted (places of) as_before _ _ (described-counted of) (λ t. some-same Ty (IsOptional t))
      described-counted (union left right) =
          then-counted (places left) (places right) _ _ (described-counted left) (λ s. then-counted (places right) as_before _ _ (described-counted right) (λ t. some-same Ty (IsUnion s t)))
      described-counted (intersection left right) =
          then-counted (places left) (places right) _ _ (described-counted left)
          (λ s. then-counted (places right) as_before _ _ (described-counted right) (λ t. some-same Ty (IsIntersection (is_readonly right) s t)))
      described-counted (array member at) = then-counted (places member) (one_more at) _ _ (described-counted member) (λ t. list-counted [] (Some t) at)
      described-counted (repeated member n at) =
          then-counted (places member) (one_more at) _ _ (described-counted member)
          (λ t. then-counted as_before (one_more at) _ _ (some-same (List Ty) (AreCopies (count_of n) t)) (λ copies. list-counted copies None at))
      described-counted (tuple members rest at) =
          then-counted (all_places members) (λ before. one_more at (places_if rest before)) _ _ (all-counted [] members)
          (λ fixed. then-counted (places_if rest) (one_more at) _ _ (if-counted rest) (λ r. list-counted fixed r at))
      described-counted (map_of member at) = then-counted (places member) (one_more at) _ _ (described-counted member) (λ t. mapping-counted [] (Some t) at)
      described-counted (closed_record fields rest at) =
          then-counted (field_places fields) (λ before. one_more at (places_if rest before)) _ _ (fields-counted [] fields)
          (λ fs. then-counted (places_if rest) (one_more at) _ _ (if-counted rest) (λ r. mapping-counted fs r at))
      described-counted (open_record fields at) =
          then-counted (field_places fields) (one_more at) _ _ (fields-counted [] fields)
          (λ fs. then-counted as_before (one_more at) _ _ (some-same Ty (IsBuiltin AnyDataWord)) (λ r. mapping-counted fs (Some r) at))
      described-counted any_error = gives-counted (plain (Basic ErrorAll))
      described-counted (error_with detail at) = then-counted (places detail) (one_more at) _ _ (described-counted detail) (λ t. plain-counted (ErrorAtom t.sem) at)
      described-counted (any_function isolated) = some-same Ty (IsAnyFunction isolated)
      described-counted (function_from isolated params rest result at) =
          then-counted (λ before. places_if rest (all_places params before)) (λ before. one_more at (one_more at (places_if result before))) _ _
          (then-counted (all_places params) (places_if rest) _ _ (all-counted [] params) (λ fixed. then-counted (places_if rest) as_before _ _ (if-counted rest) (λ r. gives-counted (params_of fixed r))))
          (λ ps. then-counted (places_if result) (λ before. one_more at (one_more at before)) _ _ (result-counted result) (λ out. arrow-counted isolated ps.0 ps.1 out.sem at))
      described-counted (future_of result at) = then-counted (places result) (one_more at) _ _ (described-counted result) (λ t. plain-counted (FutureAtom t.sem) at)

      pub all-counted : (done : List Ty) (ds : Descriptors) → Counted (all_by atom some names scope done ds) (all_places ds)
      all-counted done no_more = gives-counted done
      all-counted done (then_more d ds) = then-counted (places d) (all_places ds) _ _ (described-counted d) (λ t. all-counted (done ++ t ∷ []) ds)

      pub fields-counted : (done : List FieldDef) (fs : FieldDescriptors) → Counted (fields_by atom some names scope done fs) (field_places fs)
      fields-counted done no_field = gives-counted done
      fields-counted done (then_field name may_lack d fs) =
          then-counted (places d) (field_places fs) _ _ (then-counted (places d) as_before _ _ (described-counted d) (λ t. field-counted (names_of done) name may_lack t))
          (λ field. fields-counted (done ++ field ∷ []) fs)

      pub if-counted : (m : MaybeDescriptor) → Counted (if_by atom some names scope m) (places_if m)
      if-counted absent = gives-counted None
      if-counted (present d) = then-counted (places d) as_before _ _ (described-counted d) (λ t. gives-counted (Some t))

      pub result-counted : (m : MaybeDescriptor) → Counted (result_by atom some names scope m) (places_if m)
      result-counted absent = gives-counted (plain (Basic NilOnly))
      result-counted (present d) = described-counted d
