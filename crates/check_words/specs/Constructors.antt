-- What it means that the needs of constructors are met (Ballerina specification, "List constructor", "Mapping constructor", "Error
-- constructor", and inherent types).
use Rattle.std.specs.Prelude.{◌≡◌, ◌⊎◌, ◌≤◌, ◌++◌, ◌+◌, ◌*◌, ℕ, Bool, true, false, List, [], ◌∷◌, All, Any, length, zip, filter_map, Option, Some, None, IsSome, IsSomeAnd, IsTrue, is_some, unwrap_or, ⊤}
use Rattle.std.specs.List.{list_all, list_any}
use Rattle.bal_base.specs.declared.fault.FaultCode.TheVariants.{Duplicate, NoChoice, ReadOnlyHolds}
use Rattle.bal_base.specs.declared.fault.Kept.TheVariants.{Nothing as ShowsNothing}
use Rattle.bal_base.specs.declared.place.Place.{Place}
use Rattle.bal_base.specs.declared.shape.Shape.{Str}
use Rattle.bal_base.specs.declared.text.Text.{Text}
use Rattle.bal_tree.specs.declared.name.Literal.{Literal}
use Rattle.checks.specs.Checks.{Check, Gives, Refuses, either, gives, gives_some, ◌▷◌}
use Rattle.checks.specs.Questions.{IsFault, adds, below}
use Rattle.descriptors.specs.Described.{IsCopy, IsPlain, plain}
use Rattle.operations.specs.declared.operation.Constant.TheVariants as constant
use Rattle.operations.specs.Kinds.{IsImmutableData, IsReadonly}
use Rattle.operations.specs.Rows.{shape_of}
use Rattle.operations.specs.Structures.{IsListAtom, IsMade, IsMappingAtom}
use Rattle.type_model.specs.declared.answers.TypeLimit.{TypeLimit}
use Rattle.type_model.specs.declared.atoms.AtomDef.{AtomDef}
use Rattle.type_model.specs.declared.atoms.AtomDef.TheVariants.{List as ListAtom, Mapping as MappingAtom, Error as ErrorAtom}
use Rattle.type_model.specs.declared.atoms.FieldDef.{FieldDef}
use Rattle.type_model.specs.declared.basic.BasicSet.TheVariants.{Never}
use Rattle.type_model.specs.declared.basic.Choice.{Choice}
use Rattle.type_model.specs.declared.basic.SemType.{SemType, Atom, Basic}
use Rattle.type_model.specs.declared.basic.Ty.{Ty}
use Rattle.type_model.specs.Calls.{Asked}
use Rattle.type_model.specs.Defined.{TyBelow}
use Rattle.type_model.specs.Inclusion.{IsShapeOf}
use Rattle.type_model.specs.Membership.{In}
use Rattle.type_model.specs.Places.{is_same_text, item_type, key_type}
use Rattle.type_model.specs.SameType.{IsSameType}
use Rattle.typed_tree.specs.declared.expr.TypedExpr.{TypedExpr}
use Rattle.typed_tree.specs.declared.form.StrictForm.TheVariants as form
use Rattle.typed_tree.specs.Exprs.{type_of}
use Rattle.typed_tree.specs.SharedTypes.{Shared}
use Rattle.typed_tree.specs.Views.{IsImplied}
use Rattle.expr_needs.specs.declared.expected.Expected.{Expected}
use Rattle.expr_needs.specs.declared.expected.Expected.TheVariants as expected
use Rattle.check_words.specs.Members.{gives_key}
use Rattle.expr_needs.specs.Needs.{MemberSeen}
use Rattle.check_words.specs.State.{ConstructorAtWork, State}
use Rattle.check_words.specs.Values.{SingleOf, constant_of, widened}
use Rattle.check_words.specs.Words.{Atoms, Step, asking, below_if, closes_constructor, done, fails, last_constructor, last_part, last_two, last_want, makes, makes_strict, opens_constructor, sem, sets_constructor, some_over, unless, wants, wants_no_more, whether_within}

-- ---- which choices fit

-- the value of the literal is one of the type
abbrev pub IsLiteralIn : Atoms → Literal → Ty → Type 0
IsLiteralIn env l t = IsShapeOf env t.sem (shape_of (constant_of l))

-- the items that are literals are in the types of their places, from the place k on
abbrev pub LiteralsFit : Atoms → ℕ → List Ty → Option Ty → List (Option Literal) → Type 0
LiteralsFit env k fixed rest [] = ⊤
LiteralsFit env k fixed rest (None ∷ items) = LiteralsFit env (k + 1) fixed rest items
LiteralsFit env k fixed rest (Some l ∷ items) =
    IsSomeAnd (item_type fixed rest k) (IsLiteralIn env l) × LiteralsFit env (k + 1) fixed rest items

-- a list of so many items may be of the atom
abbrev pub LengthFits : List Ty → Option Ty → ℕ → Type 0
LengthFits fixed rest count = (length fixed ≤ count) × (IsSome rest ⊎ (count ≤ length fixed))

abbrev pub ListFits : List (Option Literal) → Atoms → Choice → Type 0
ListFits items env c = IsListAtom env c.atom (λ fixed rest. LengthFits fixed rest (length items) × LiteralsFit env 0 fixed rest items)

-- the type of a member with this key, where there is one: none stands for a computed key, which goes with the rest
abbrev pub member_type : List FieldDef → Option Ty → Option Text → Option Ty
member_type fields rest (Some key) = key_type fields rest key
member_type fields rest None = rest

abbrev pub literal_fits : Atoms → Option Literal → Option Ty → Type 0
literal_fits env None t = ⊤
literal_fits env (Some l) t = IsSomeAnd t (IsLiteralIn env l)

-- a key that isn't computed is allowed, and a member that is a literal is in its type
abbrev pub KeyFits : Option Text → Option Ty → Type 0
KeyFits (Some key) t = IsSome t
KeyFits None t = ⊤

abbrev pub MemberFits : Atoms → List FieldDef → Option Ty → MemberSeen → Type 0
MemberFits env fields rest m = KeyFits m.key (member_type fields rest m.key) × literal_fits env m.literal (member_type fields rest m.key)

abbrev pub RequiredAreThere : List FieldDef → List MemberSeen → Type 0
RequiredAreThere fields members = All (λ f. IsTrue f.optional ⊎ Any (λ m. m.key ≡ Some f.name) members) fields

abbrev pub MappingFits : List MemberSeen → Atoms → Choice → Type 0
MappingFits members env c =
    IsMappingAtom env c.atom (λ fields rest. All (MemberFits env fields rest) members × RequiredAreThere fields members)

-- ---- what is chosen

abbrev pub at_work : Option ℕ → Bool → ConstructorAtWork
at_work choice immutable = record { choice = choice; immutable = immutable; keys = []; types = [] }

-- the first choice that fits
pub record IsFirst (Fits : Choice → Type 0) (choices : List Choice) (c : Choice) : Type 0 where
  pub before : List Choice
  pub behind : List Choice
  pub is : choices ≡ before ++ c ∷ behind
  pub none_before : All (λ d. ¬ Fits d) before
  pub fits : Fits c

-- one of the choices that fits, the first one, or none
unfoldable pub first_fit : (Atoms → Choice → Type 0) → List Choice → Place → Check State Choice
first_fit Fits choices at old (Gives c) new = IsFirst (Fits old.atoms) choices c × (new ≡ old)
first_fit Fits choices at old (Refuses f) new = All (λ d. ¬ Fits old.atoms d) choices × IsFault NoChoice (Some at) ShowsNothing f × (new ≡ old)

abbrev pub IsReadonlyType : Atoms → Ty → Type 0
IsReadonlyType = IsPlain IsReadonly

abbrev pub IsFrozenType : Atoms → Ty → Type 0
IsFrozenType = IsPlain IsImmutableData

-- of the choices of lists and of mappings; `own`: those of the constructor's kind
module _ (passes : List AtomDef → Asked → TypeLimit → Type 0) (own : Ty → List Choice) (Fits : Atoms → Choice → Type 0) where
  -- without any choice the value is immutable where all of what is expected is
  abbrev pub chooses_by : List Choice → Ty → Place → Step
  chooses_by [] t at = whether_within passes IsReadonlyType t.sem at ▷ λ b. opens_constructor (at_work None b)
  chooses_by (c ∷ cs) t at = first_fit Fits (own t) at ▷ λ d. opens_constructor (at_work (Some d.atom) d.immutable)

  abbrev pub chooses_for : Option Shared → Place → Step
  chooses_for None at = opens_constructor (at_work None false)
  chooses_for (Some t) at = chooses_by (t.value.lists ++ t.value.maps) t.value at

  abbrev pub chooses_constructor : Expected → Place → Step
  chooses_constructor expected.Nothing at = opens_constructor (at_work None false)
  chooses_constructor expected.Immutable at = opens_constructor (at_work None true)
  chooses_constructor expected.Wanted at = last_want ▷ λ w. chooses_for w at

-- ---- keys

abbrev pub with_key : Option Text → ConstructorAtWork → ConstructorAtWork
with_key key c = record c { keys = c.keys ++ key ∷ [] }

abbrev pub is_key : Text → Option Text → Bool
is_key text None = false
is_key text (Some key) = is_same_text text key

-- a key more, which none before it is
abbrev pub takes_key : Text → Place → Step
takes_key text at =
    last_constructor ▷ λ c. either (list_any (is_key text) c.keys) (fails Duplicate at) (sets_constructor (with_key (Some text) c))

abbrev pub gives_new_key : Text → Place → Step
gives_new_key text at = takes_key text at ▷ λ u. gives_key text at

abbrev pub computes_key : Step
computes_key = last_constructor ▷ λ c. sets_constructor (with_key None c)

-- ---- members

abbrev pub with_member : Ty → ConstructorAtWork → ConstructorAtWork
with_member t c = record c { types = c.types ++ t ∷ [] }

-- nothing is expected of members where nothing was chosen, and else the type of the place
abbrev pub IsWantCopy : Ty → Option Shared → Type 0
IsWantCopy t w = (u : Shared) × (w ≡ Some u) × IsCopy t u.value

abbrev pub IsItemWant : Atoms → ConstructorAtWork → Option Shared → Type 0
IsItemWant env c w = by c.choice
  where
    by : Option ℕ → Type 0
    by None = w ≡ None
    by (Some atom) = IsListAtom env atom (λ fixed rest. IsSomeAnd (item_type fixed rest (length c.types)) (λ t. IsWantCopy t w))

-- the last of the keys
pub record IsLastKey (c : ConstructorAtWork) (key : Option Text) : Type 0 where
  pub before : List (Option Text)
  pub is : c.keys ≡ before ++ key ∷ []

-- where the rest has no type, it is `never`
abbrev pub IsMemberWant : Atoms → ConstructorAtWork → Option Shared → Type 0
IsMemberWant env c w = by c.choice
  where
    by : Option ℕ → Type 0
    by None = w ≡ None
    by (Some atom) =
        (key : Option Text) × IsLastKey c key
        × IsMappingAtom env atom (λ fields rest. IsWantCopy (unwrap_or (member_type fields rest key) (plain (Basic Never))) w)

abbrev pub expects_item : Step
expects_item = last_constructor ▷ λ c. some_over (λ env w. IsItemWant env c w) ▷ λ w. wants w

abbrev pub expects_member : Step
expects_member = last_constructor ▷ λ c. some_over (λ env w. IsMemberWant env c w) ▷ λ w. wants w

module _ (passes : List AtomDef → Asked → TypeLimit → Type 0) where
  -- immutable values hold immutable anydata
  abbrev pub is_frozen : TypedExpr → Place → Step
  is_frozen e at = whether_within passes IsFrozenType (sem e) at ▷ λ b. unless b ReadOnlyHolds at

  -- a member with a computed key has to be of the type of each field whose name the key may be: the name is one of the shapes of the key's type
  unfoldable pub names_field : Text → SemType → Check Atoms Bool
  names_field name key old (Gives b) new = ((b ≡ true) × IsShapeOf old key (Str name) ⊎ (b ≡ false) × (¬ IsShapeOf old key (Str name))) × (new ≡ old)
  names_field name key old (Refuses f) new = ⊥

  -- a question changes what is known of types, so it is asked of a copy
  abbrev pub is_below_copy : TypedExpr → SemType → Place → Step
  is_below_copy e s at = some_over (λ env t. IsSameType s t) ▷ λ t. asking (below passes (sem e) t (Some at))

  abbrev pub fits_field : SemType → TypedExpr → Place → FieldDef → Step
  fits_field key e at f = asking (names_field f.name key) ▷ λ b. either b (is_below_copy e f.ty.sem at) done

  abbrev pub fits_fields : SemType → TypedExpr → Place → List FieldDef → Step
  fits_fields key e at [] = done
  fits_fields key e at (f ∷ fields) = fits_field key e at f ▷ λ u. fits_fields key e at fields

  -- the fields of the atom that was chosen
  abbrev pub fields_of_choice : ℕ → Check State (List FieldDef)
  fields_of_choice atom = some_over (λ env fields. IsMappingAtom env atom (λ fs rest. fields ≡ fs))

  abbrev pub fits_keys : Option ℕ → Option Text → Place → Step
  fits_keys None key at = done
  fits_keys (Some atom) (Some key) at = done
  fits_keys (Some atom) None at = last_two ▷ λ p. fields_of_choice atom ▷ λ fields. fits_fields (sem p.0) p.1 at fields

  -- what a member's type adds to that of the construct: where nothing was chosen, it is widened
  abbrev pub added_type : Option ℕ → TypedExpr → Place → Check State Shared
  added_type None e at = widened passes (type_of e) at
  added_type (Some atom) e at = gives (type_of e)

  abbrev pub adds_member : ConstructorAtWork → TypedExpr → Place → Step
  adds_member c e at = added_type c.choice e at ▷ λ t. some_over (λ env u. IsCopy t.value u) ▷ λ u. sets_constructor (with_member u c)

  abbrev pub may_stand : ConstructorAtWork → TypedExpr → Place → Step
  may_stand c e at = either c.immutable (is_frozen e at) done

  -- what is wanted of the member is wanted no more
  abbrev pub is_item : Place → Step
  is_item at =
      last_constructor ▷ λ c. last_part ▷ λ e. last_want ▷ λ w. below_if passes w e at ▷ λ u.
      may_stand c e at ▷ λ v. adds_member c e at ▷ λ x. wants_no_more 1

  abbrev pub is_member : Place → Step
  is_member at =
      last_constructor ▷ λ c. last_part ▷ λ e. last_want ▷ λ w. below_if passes w e at ▷ λ u.
      (gives_some (λ s key. IsLastKey c key) ▷ λ key. fits_keys c.choice key at) ▷ λ v.
      may_stand c e at ▷ λ x. adds_member c e at ▷ λ y. wants_no_more 1

  abbrev pub is_detail : Place → Step
  is_detail at =
      last_constructor ▷ λ c. last_part ▷ λ e. is_frozen e at ▷ λ u. some_over (λ env t. IsCopy (type_of e).value t) ▷ λ t.
      sets_constructor (with_member t c)

-- ---- what members make

-- the fields with these keys and types, all required
abbrev pub field_with : Option Text × Ty → Option FieldDef
field_with (Some key, t) = Some (record { name = key; ty = t; optional = false })
field_with (None, t) = None

abbrev pub fields_with : List (Option Text) → List Ty → List FieldDef
fields_with keys types = filter_map field_with (zip keys types)

abbrev pub atom_of : Option ℕ → (Atoms → List AtomDef → Type 0) → Place → Check State ℕ
atom_of (Some atom) P at = gives atom
atom_of None P at = asking (adds P (Some at))

-- the chosen atom, or that of the very items
abbrev pub makes_list : ℕ → Place → Step
makes_list count at =
    closes_constructor ▷ λ c. atom_of c.choice (λ env defs. defs ≡ ListAtom c.types None ∷ []) at ▷ λ atom.
    makes_strict count (form.List atom c.immutable) (λ env. IsPlain (IsMade env atom c.immutable) env) at

-- all keys are known
abbrev pub all_known : List (Option Text) → Bool
all_known keys = list_all is_some keys

-- a closed record of the members, or where a key is computed, a map of the union of their types, which names only atoms that are there
abbrev pub IsOfMembers : ConstructorAtWork → Atoms → List AtomDef → Type 0
IsOfMembers c env defs = by (all_known c.keys)
  where
    by : Bool → Type 0
    by true = defs ≡ MappingAtom (fields_with c.keys c.types) None ∷ []
    by false = (t : Ty) × IsPlain (λ x. Any (λ u. In env x u.sem) c.types) env t × TyBelow (length env) t × (defs ≡ MappingAtom [] (Some t) ∷ [])

-- each member is a key and a value
abbrev pub makes_mapping : ℕ → Place → Step
makes_mapping count at =
    closes_constructor ▷ λ c. atom_of c.choice (IsOfMembers c) at ▷ λ atom.
    makes_strict (2 * count) (form.Mapping atom c.immutable) (λ env. IsPlain (IsMade env atom c.immutable) env) at

-- ---- errors

abbrev pub begins_keys : Step
begins_keys = opens_constructor (at_work None false)

-- the cause that an error doesn't have
abbrev pub lacks_cause : Place → Step
lacks_cause at = makes 0 (λ env parts e. (t : Shared) × SingleOf constant.Nil env t.value × IsImplied constant.Nil t at e)

-- the detail is the closed record of the types of its members
abbrev pub IsErrorOver : ConstructorAtWork → Atoms → List AtomDef → Type 0
IsErrorOver c env defs = defs ≡ MappingAtom (fields_with c.keys c.types) None ∷ ErrorAtom (Atom (length env)) ∷ []

-- a message, a cause, and so many details, each of which is a key and a value
abbrev pub makes_error : ℕ → Place → Step
makes_error count at =
    closes_constructor ▷ λ c. asking (adds (IsErrorOver c) (Some at)) ▷ λ first.
    makes_strict (2 + 2 * count) form.Error (λ env t. t ≡ plain (Atom (first + 1))) at
