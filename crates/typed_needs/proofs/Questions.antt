-- What questions about types do to atoms: nothing, or some come behind those that are there.
use Rattle.std.proofs.Common.{◌≡◌, ◌∙◌, ◌++◌, Bool, true, false, List, [], ◌∷◌, Option, None, Some, Result, Ok, Err, append-nil, append_assoc, refl, sym, ap}
use Rattle.bal_base.specs.declared.fault.Fault.{Fault}
use Rattle.std.specs.List.{list_any}
use Rattle.bal_base.specs.declared.fault.FaultCode.{FaultCode}
use Rattle.bal_base.specs.declared.fault.FaultCode.TheVariants.{Duplicate}
use Rattle.bal_base.specs.declared.fault.Kept.TheVariants.{Nothing}
use Rattle.bal_base.specs.declared.place.Place.{Place}
use Rattle.bal_base.specs.declared.text.Text.{Text}
use Rattle.bal_tree.specs.declared.name.Word.{Word}
use Rattle.checks.specs.Checks.{gives, Check, Gives, either, gives_some, refuses, ◌▷◌}
use Rattle.checks.specs.Questions.{IsFault, adds, applied, below, has_some, is_below, member}
use Rattle.descriptors.specs.declared.names.Names.{Names}
use Rattle.descriptors.specs.declared.names.Scope.{Scope}
use Rattle.descriptors.specs.Described.{Atoms, all_by, field_of, arrow_by, by_now, described, described_whole, fields_by, gives_named, if_by, list_by, mapping_by, names_of, new_atom, new_field, plain_by, result_by}
use Rattle.descriptors.specs.Descriptors.{Descriptor, builtin, value, named, optional, union, intersection, array, repeated, tuple, map_of, closed_record, open_record, any_error, error_with, any_function, function_from, future_of, Descriptors, no_more, then_more, FieldDescriptors, no_field, then_field, MaybeDescriptor, absent, present}
use Rattle.type_model.specs.declared.answers.Keys.{Keys}
use Rattle.type_model.specs.declared.answers.TypeLimit.{TypeLimit}
use Rattle.type_model.specs.declared.atoms.AtomDef.{AtomDef}
use Rattle.type_model.specs.declared.atoms.FieldDef.{FieldDef}
use Rattle.type_model.specs.declared.basic.SemType.{SemType}
use Rattle.type_model.specs.declared.basic.Ty.{Ty}
use Rattle.type_model.specs.Calls.{Asked}
use Rattle.type_model.specs.Places.{is_same_text}
use Rattle.check_words.specs.declared.access.Access.{Access}
use Rattle.check_words.specs.Constructors.{names_field}
use Rattle.check_words.specs.Joins.{where_false}
use Rattle.check_words.specs.Members.{names_members}
use Rattle.typed_needs.proofs.Leaving.{AddsNone}

module _ (passes : List AtomDef → Asked → TypeLimit → Type 0) where
  pub below-adds-none : (s t : SemType) (at : Option Place) → AddsNone (below passes s t at)
  unfolding below
  below-adds-none s t at old new u (under, same) = same

  pub is-below-adds-none : (s t : SemType) (at : Option Place) → AddsNone (is_below passes s t at)
  unfolding is_below
  is-below-adds-none s t at old new true (under, same) = same
  is-below-adds-none s t at old new false (x, same) = same

  pub has-some-adds-none : (t : SemType) (at : Option Place) → AddsNone (has_some passes t at)
  unfolding has_some
  has-some-adds-none t at old new true (x, same) = same
  has-some-adds-none t at old new false (x, same) = same

  pub member-adds-none : (t : SemType) (keys : Keys) (at : Option Place) → AddsNone (member passes t keys at)
  unfolding member
  member-adds-none t keys at old new m (defined, exactly, same) = same

  pub applied-adds-none : (f args : SemType) (at : Option Place) → AddsNone (applied passes f args at)
  unfolding applied
  applied-adds-none f args at old new r (defined, least, same) = same

  pub names-add-none : (a : Access) (t : SemType) (at : Place) → AddsNone (names_members passes a t at)
  unfolding names_members
  names-add-none a t at old new keys (which, same) = same

  pub where-false-adds-none : (s t : Ty) (at : Place) → AddsNone (where_false passes s t at)
  unfolding where_false
  where-false-adds-none s t at old new a (is, same) = same

  pub field-adds-none : (name : Text) (key : SemType) → AddsNone (names_field passes name key)
  unfolding names_field
  field-adds-none name key old new b (is, same) = same

-- ---- atoms that come behind

abbrev pub AddsBehind : {A : Type 0} → Check Atoms A → Type 0
AddsBehind {A} q = (old new : Atoms) (a : A) → q old (Gives a) new → (more : List AtomDef) × (new ≡ old ++ more)

pub none-behind : {A : Type 0} (q : Check Atoms A) → AddsNone q → AddsBehind q
none-behind q none old new a asked = ([], none old new a asked ∙ sym (append-nil old))

pub adds-behind : (P : Atoms → List AtomDef → Type 0) (at : Option Place) → AddsBehind (adds P at)
unfolding adds
adds-behind P at old new first (defs, holds, number, is) = (defs, is)

module _ (passes : List AtomDef → Asked → TypeLimit → Type 0) where
  pub below-behind : (s t : SemType) (at : Option Place) → AddsBehind (below passes s t at)
  below-behind s t at = none-behind (below passes s t at) (below-adds-none passes s t at)

  pub is-below-behind : (s t : SemType) (at : Option Place) → AddsBehind (is_below passes s t at)
  is-below-behind s t at = none-behind (is_below passes s t at) (is-below-adds-none passes s t at)

  pub has-some-behind : (t : SemType) (at : Option Place) → AddsBehind (has_some passes t at)
  has-some-behind t at = none-behind (has_some passes t at) (has-some-adds-none passes t at)

  pub member-behind : (t : SemType) (keys : Keys) (at : Option Place) → AddsBehind (member passes t keys at)
  member-behind t keys at = none-behind (member passes t keys at) (member-adds-none passes t keys at)

  pub applied-behind : (f args : SemType) (at : Option Place) → AddsBehind (applied passes f args at)
  applied-behind f args at = none-behind (applied passes f args at) (applied-adds-none passes f args at)

  pub names-behind : (a : Access) (t : SemType) (at : Place) → AddsBehind (names_members passes a t at)
  names-behind a t at = none-behind (names_members passes a t at) (names-add-none passes a t at)

  pub where-false-behind : (s t : Ty) (at : Place) → AddsBehind (where_false passes s t at)
  where-false-behind s t at = none-behind (where_false passes s t at) (where-false-adds-none passes s t at)

  pub field-asked-behind : (name : Text) (key : SemType) → AddsBehind (names_field passes name key)
  field-asked-behind name key = none-behind (names_field passes name key) (field-adds-none passes name key)

pub then-behind : {A B : Type 0} (m : Check Atoms A) (next : A → Check Atoms B) → AddsBehind m → ((a : A) → AddsBehind (next a)) → AddsBehind (m ▷ next)
unfolding ◌▷◌
then-behind m next f g old new b (a, mid, x, y) =
    let (first, is) = f old mid a x in let (second, are) = g a mid new b y in
    (first ++ second, are ∙ ap (λ xs. xs ++ second) is ∙ append_assoc old first second)

pub some-behind : {A : Type 0} (P : Atoms → A → Type 0) → AddsBehind (gives_some P)
unfolding gives_some
some-behind P old new a (x, e) = ([], e ∙ sym (append-nil old))

refused-behind : {A : Type 0} (P : Atoms → Fault → Type 0) → AddsBehind (refuses {S = Atoms} {A = A} P)
unfolding refuses
refused-behind P old new a x = absurd x

-- ---- descriptors

atom-behind : (def : AtomDef) (at : Place) → AddsBehind (new_atom def at)
atom-behind def at = adds-behind _ (Some at)

list-behind : (fixed : List Ty) (rest : Option Ty) (at : Place) → AddsBehind (list_by new_atom fixed rest at)
list-behind fixed rest at = then-behind _ _ (atom-behind _ at) (λ n. some-behind _)

mapping-behind : (fields : List FieldDef) (rest : Option Ty) (at : Place) → AddsBehind (mapping_by new_atom fields rest at)
mapping-behind fields rest at = then-behind _ _ (atom-behind _ at) (λ n. some-behind _)

plain-behind : (def : AtomDef) (at : Place) → AddsBehind (plain_by new_atom def at)
plain-behind def at = then-behind _ _ (atom-behind def at) (λ n. some-behind _)

arrow-behind : (isolated : Bool) (fixed : List Ty) (rest : Option Ty) (result : SemType) (at : Place) → AddsBehind (arrow_by new_atom isolated fixed rest result at)
arrow-behind isolated fixed rest result at = then-behind _ _ (atom-behind _ at) (λ n. plain-behind _ at)

named-behind : (r : Result Ty FaultCode) (at : Place) → AddsBehind (gives_named {S = Atoms} r at)
named-behind (Ok t) at = some-behind _
named-behind (Err code) at = refused-behind _

either-behind : {A : Type 0} (b : Bool) (m n : Check Atoms A) → AddsBehind m → AddsBehind n → AddsBehind (either b m n)
either-behind true m n f g = f
either-behind false m n f g = g

field-behind : (taken : List Text) (name : Word) (may_lack : Bool) (t : Ty) → AddsBehind (new_field {S = Atoms} taken name may_lack t)
field-behind taken name may_lack t =
    either-behind (list_any (is_same_text name.name) taken) (refuses (λ s f. IsFault Duplicate (Some name.at) Nothing f)) (gives (field_of name may_lack t))
    (refused-behind (λ s f. IsFault Duplicate (Some name.at) Nothing f)) (some-behind (λ s g. g ≡ field_of name may_lack t))

module _ (names : Names) (scope : Scope) where
  mutual
    pub described-behind : (d : Descriptor) → AddsBehind (described names scope d)
    described-behind (builtin b) = some-behind _
    described-behind (value v) = some-behind _
    described-behind (named name) = named-behind _ name.at
    described-behind (optional of) = then-behind _ _ (described-behind of) (λ t. some-behind _)
    described-behind (union left right) = then-behind _ _ (described-behind left) (λ s. then-behind _ _ (described-behind right) (λ t. some-behind _))
    described-behind (intersection left right) = then-behind _ _ (described-behind left) (λ s. then-behind _ _ (described-behind right) (λ t. some-behind _))
    described-behind (array member at) = then-behind _ _ (described-behind member) (λ t. list-behind [] (Some t) at)
    described-behind (repeated member n at) = then-behind _ _ (described-behind member) (λ t. then-behind _ _ (some-behind _) (λ copies. list-behind copies None at))
    described-behind (tuple members rest at) = then-behind _ _ (all-behind [] members) (λ fixed. then-behind _ _ (if-behind rest) (λ r. list-behind fixed r at))
    described-behind (map_of member at) = then-behind _ _ (described-behind member) (λ t. mapping-behind [] (Some t) at)
    described-behind (closed_record fields rest at) = then-behind _ _ (fields-behind [] fields) (λ fs. then-behind _ _ (if-behind rest) (λ r. mapping-behind fs r at))
    described-behind (open_record fields at) = then-behind _ _ (fields-behind [] fields) (λ fs. then-behind _ _ (some-behind _) (λ r. mapping-behind fs (Some r) at))
    described-behind any_error = some-behind _
    described-behind (error_with detail at) = then-behind _ _ (described-behind detail) (λ t. plain-behind _ at)
    described-behind (any_function isolated) = some-behind _
    described-behind (function_from isolated params rest result at) =
        then-behind _ _ (then-behind _ _ (all-behind [] params) (λ fixed. then-behind _ _ (if-behind rest) (λ r. some-behind _)))
        (λ ps. then-behind _ _ (result-behind result) (λ out. arrow-behind isolated ps.0 ps.1 out.sem at))
    described-behind (future_of result at) = then-behind _ _ (described-behind result) (λ t. plain-behind _ at)

    all-behind : (done : List Ty) (ds : Descriptors) → AddsBehind (all_by new_atom by_now names scope done ds)
    all-behind done no_more = some-behind _
    all-behind done (then_more d ds) = then-behind _ _ (described-behind d) (λ t. all-behind (done ++ t ∷ []) ds)

    fields-behind : (done : List FieldDef) (fs : FieldDescriptors) → AddsBehind (fields_by new_atom by_now names scope done fs)
    fields-behind done no_field = some-behind _
    fields-behind done (then_field name may_lack d fs) =
        then-behind _ _ (then-behind _ _ (described-behind d) (λ t. field-behind (names_of done) name may_lack t)) (λ f. fields-behind (done ++ f ∷ []) fs)

    if-behind : (m : MaybeDescriptor) → AddsBehind (if_by new_atom by_now names scope m)
    if-behind absent = some-behind _
    if-behind (present d) = then-behind _ _ (described-behind d) (λ t. some-behind _)

    result-behind : (m : MaybeDescriptor) → AddsBehind (result_by new_atom by_now names scope m)
    result-behind absent = some-behind _
    result-behind (present d) = described-behind d

  pub whole-behind : (d : Descriptor) → AddsBehind (described_whole names scope d)
  whole-behind d = then-behind _ _ (described-behind d) (λ t. some-behind _)
