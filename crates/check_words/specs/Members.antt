-- What it means that the needs of reads and stores of members are met (Ballerina specification, "Member access expression", "Field access
-- expression", "Optional field access expression").
use Rattle.std.specs.Prelude.{ℕ, ℤ, ◌≡◌, ◌⊎◌, ◌++◌, Bool, true, false, List, [], ◌∷◌, All, map, Option, Some, None, option_to_list, pos, slice_get, ⊤}
use Rattle.bal_base.specs.declared.fault.Fault.{Fault}
use Rattle.bal_base.specs.declared.fault.FaultCode.TheVariants.{NoField}
use Rattle.bal_base.specs.declared.place.Place.{Place}
use Rattle.bal_base.specs.declared.shape.Shape.{Shape, Int, Str}
use Rattle.bal_base.specs.declared.text.Text.{Text}
use Rattle.bal_base.specs.Valid.{IsValid}
use Rattle.bal_tree.specs.declared.name.Word.{Word}
use Rattle.checks.specs.Checks.{Check, Gives, Refuses, either, gives, gives_some, ◌▷◌}
use Rattle.checks.specs.Questions.{IsTooLarge, adds, has_some, is_below, member}
use Rattle.descriptors.specs.Described.{HasMeaning, IsPlain, plain}
use Rattle.operations.specs.declared.operation.Constant.TheVariants as constant
use Rattle.operations.specs.Kinds.{IsList, IsNil, IsString}
use Rattle.operations.specs.Rows.{IsSingle}
use Rattle.type_model.specs.declared.answers.Keys.{Keys}
use Rattle.type_model.specs.declared.answers.Keys.TheVariants.{Index, AnyIndex, Field, AnyField}
use Rattle.type_model.specs.declared.answers.TypeLimit.{TypeLimit}
use Rattle.type_model.specs.declared.atoms.AtomDef.{AtomDef}
use Rattle.type_model.specs.declared.atoms.AtomDef.TheVariants.{List as ListAtom, Mapping as MappingAtom, Arrow, Error as ErrorAtom, Future as FutureAtom}
use Rattle.type_model.specs.declared.basic.Choice.{Choice}
use Rattle.type_model.specs.declared.basic.BasicSet.TheVariants.{IntRange, StringOne}
use Rattle.type_model.specs.declared.basic.SemType.{SemType, Atom, Basic}
use Rattle.type_model.specs.declared.basic.Ty.{Ty}
use Rattle.type_model.specs.Calls.{Asked, Alone, Without}
use Rattle.type_model.specs.Membership.{In}
use Rattle.type_model.specs.Places.{key_type}
use Rattle.typed_tree.specs.declared.form.Read.{Read}
use Rattle.typed_tree.specs.declared.form.Read.TheVariants as read
use Rattle.typed_tree.specs.declared.form.StrictForm.TheVariants as form
use Rattle.typed_tree.specs.Exprs.{type_of}
use Rattle.typed_tree.specs.SharedTypes.{Shared}
use Rattle.typed_tree.specs.Views.{IsImplied}
use Rattle.check_words.specs.declared.access.Access.{Access}
use Rattle.check_words.specs.declared.access.Access.TheVariants.{Char, Item, Key}
use Rattle.expr_needs.specs.declared.kind.Kind.{Kind}
use Rattle.expr_needs.specs.declared.kind.Kind.TheVariants as kind
use Rattle.check_words.specs.State.{IsLast, State, all_but}
use Rattle.check_words.specs.Values.{SingleOf}
use Rattle.check_words.specs.Words.{Atoms, EitherOf, OfKind, PartOf, Step, asking, becomes, is_of, last_part, last_two, makes, makes_strict, sem, some_over, unless, wants_some, whether_some}

-- ---- which members

abbrev pub last_access : Check State Access
last_access = gives_some (λ s a. IsLast s.accesses a)

abbrev pub accesses : Access → Step
accesses a = becomes (λ s. record s { accesses = s.accesses ++ a ∷ [] })

abbrev pub takes_access : Check State Access
takes_access = last_access ▷ λ a. becomes (λ s. record s { accesses = all_but 1 s.accesses }) ▷ λ u. gives a

-- the kind of what a member is taken of, and of the index or key
abbrev pub container_kind : Access → Kind
container_kind Char = kind.Text
container_kind Item = kind.AnyList
container_kind Key = kind.AnyMapping

abbrev pub index_kind : Access → Kind
index_kind Char = kind.Integer
index_kind Item = kind.Integer
index_kind Key = kind.Text

-- The type has just one shape, this one.
abbrev pub IsOnly : Atoms → SemType → Shape → Type 0
IsOnly env t x = IsValid x × IsSingle env t x

-- the items that an index of the type names: one, where it has just one int, from 0 on, and else all
abbrev pub NamesItems : Atoms → SemType → Keys → Type 0
NamesItems env t keys =
    ((n : ℕ) × IsOnly env t (Int (pos n)) × (keys ≡ Index n)) ⊎ (((n : ℕ) → ¬ IsOnly env t (Int (pos n))) × (keys ≡ AnyIndex))

-- the members that a key of the type names: one, where it has just one string, and else all
abbrev pub NamesFields : Atoms → SemType → Keys → Type 0
NamesFields env t keys =
    ((key : Text) × IsOnly env t (Str key) × (keys ≡ Field key)) ⊎ (((key : Text) → ¬ IsOnly env t (Str key)) × (keys ≡ AnyField))

abbrev pub NamesMembers : Access → Atoms → SemType → Keys → Type 0
NamesMembers Char env = NamesItems env
NamesMembers Item env = NamesItems env
NamesMembers Key env = NamesFields env

-- the field is a key: a part that stands for no expression
abbrev pub gives_key : Text → Place → Step
gives_key text at = makes 0 (λ env parts e. (t : Shared) × SingleOf (constant.Str text) env t.value × IsImplied (constant.Str text) t at e)

abbrev pub has_field : Word → Step
has_field w = gives_key w.name w.at ▷ λ u. accesses Key

-- ---- constructor choices of what is stored

-- the type that the atom names at these keys, that of all others, and all that it names
abbrev pub named_member : AtomDef → Keys → List Ty
named_member (ListAtom fixed rest) (Index n) = option_to_list (slice_get fixed n)
named_member (ListAtom fixed rest) keys = []
named_member (MappingAtom fields rest) (Field name) = option_to_list (key_type fields None name)
named_member (MappingAtom fields rest) keys = []
named_member (Arrow args result isolated) keys = []
named_member (ErrorAtom detail) keys = []
named_member (FutureAtom result) keys = []

abbrev pub other_members : AtomDef → List Ty
other_members (ListAtom fixed rest) = option_to_list rest
other_members (MappingAtom fields rest) = option_to_list rest
other_members (Arrow args result isolated) = []
other_members (ErrorAtom detail) = []
other_members (FutureAtom result) = []

abbrev pub all_named : AtomDef → List Ty
all_named (ListAtom fixed rest) = fixed
all_named (MappingAtom fields rest) = map (λ f. f.ty) fields
all_named (Arrow args result isolated) = []
all_named (ErrorAtom detail) = []
all_named (FutureAtom result) = []

abbrev pub HasChoices : List Choice → List Choice → Ty → Type 0
HasChoices lists maps t = (t.lists ≡ lists) × (t.maps ≡ maps)

-- those of the members if all have the same ones, and else none
abbrev pub AreShared : List Ty → List Choice → List Choice → Type 0
AreShared [] lists maps = (lists ≡ []) × (maps ≡ [])
AreShared (t ∷ ts) lists maps =
    (All (HasChoices t.lists t.maps) ts × HasChoices lists maps t)
    ⊎ ((¬ All (HasChoices t.lists t.maps) ts) × (lists ≡ []) × (maps ≡ []))

-- those of the member that the atom names, or else of all others, or where there are none, those that all named ones have
abbrev pub AreStored : List Ty → List Ty → List Ty → List Choice → List Choice → Type 0
AreStored (t ∷ ts) others named lists maps = HasChoices lists maps t
AreStored [] (t ∷ ts) named lists maps = HasChoices lists maps t
AreStored [] [] named lists maps = AreShared named lists maps

abbrev pub AreOfAtom : Option AtomDef → Keys → List Choice → List Choice → Type 0
AreOfAtom (Some def) keys = AreStored (named_member def keys) (other_members def) (all_named def)
AreOfAtom None keys = λ lists maps. (lists ≡ []) × (maps ≡ [])

-- What a member that is stored may be made of: what the one constructor choice of the container's type says, where it has just one.
abbrev pub AreChoicesOf : Atoms → List Choice → Keys → List Choice → List Choice → Type 0
AreChoicesOf env (c ∷ []) keys = AreOfAtom (slice_get env c.atom) keys
AreChoicesOf env [] keys = λ lists maps. (lists ≡ []) × (maps ≡ [])
AreChoicesOf env (c ∷ d ∷ more) keys = λ lists maps. (lists ≡ []) × (maps ≡ [])

-- members of this type are stored into such a container at these keys
abbrev pub IsStored : Ty → Keys → SemType → Atoms → Ty → Type 0
IsStored container keys m env t =
    (lists maps : List Choice) × AreChoicesOf env (container.lists ++ container.maps) keys lists maps
    × HasMeaning (λ x. In env x m) lists maps env t

-- ---- reads

-- all mappings that have the field
abbrev pub HaveField : Text → List AtomDef → Type 0
HaveField name defs =
    (t r : Ty) × IsEvery t × IsEvery r × (defs ≡ MappingAtom (record { name = name; ty = t; optional = false } ∷ []) (Some r) ∷ [])
  where
    IsEvery : Ty → Type 0
    IsEvery t = (env : Atoms) → IsPlain (λ x. ⊤) env t

abbrev pub read_of : Access → Read
read_of Char = read.Char
read_of Item = read.Item
read_of Key = read.Key

module _ (passes : List AtomDef → Asked → TypeLimit → Type 0) where
  -- Which members an index or a key of the type names. To find it questions may be asked whether the type has a shape, and whether it
  -- has another one than a single int or string.
  abbrev pub IsSingleSet : SemType → Type 0
  IsSingleSet u = ((n : ℤ) × (u ≡ Basic (IntRange n n))) ⊎ ((key : Text) × (u ≡ Basic (StringOne key)))

  abbrev pub NamesBeyond : SemType → Place → Atoms → Fault → Type 0
  NamesBeyond t at env f =
      IsTooLarge passes (Alone t) (Some at) env f ⊎ ((u : SemType) × IsSingleSet u × IsTooLarge passes (Without t u) (Some at) env f)

  unfoldable pub names_members : Access → SemType → Place → Check Atoms Keys
  names_members a t at old (Gives keys) new = NamesMembers a old t keys × (new ≡ old)
  names_members a t at old (Refuses f) new = NamesBeyond t at old f × (new ≡ old)

  -- the type of such members of the container, and whether there is one
  abbrev pub member_at : SemType → Keys → Place → Check State SemType
  member_at container keys at = asking (member passes container keys (Some at))

  abbrev pub some_member_at : SemType → Keys → Place → Check State SemType
  some_member_at container keys at =
      member_at container keys at ▷ λ m. asking (has_some passes m (Some at)) ▷ λ b. unless b NoField at ▷ λ u. gives m

  -- ---- what a member is taken of

  -- the last part has to be of this kind
  abbrev pub is_accessed_as : Access → Place → Step
  is_accessed_as a at = is_of passes (container_kind a) at ▷ λ u. accesses a

  abbrev pub has_part : (Shape → Type 0) → Place → Check State Bool
  has_part P at = last_part ▷ λ e. whether_some passes (PartOf (sem e) P) at

  -- a list where the last part has one, and else a mapping
  abbrev pub is_structure : Place → Step
  is_structure at = has_part IsList at ▷ λ b. either b (is_accessed_as Item at) (is_accessed_as Key at)

  -- and before them a string where it has one
  abbrev pub is_accessed : Bool → Place → Step
  is_accessed true at = has_part IsString at ▷ λ b. either b (is_accessed_as Char at) (is_structure at)
  is_accessed false at = is_structure at

  abbrev pub is_index : Place → Step
  is_index at = last_access ▷ λ a. is_of passes (index_kind a) at

  -- ---- reads

  abbrev pub reads_element : Access → Place → Step
  reads_element Char at = makes_strict 2 (form.Read read.Char) (OfKind kind.Text) at
  reads_element Item at =
      last_two ▷ λ p. asking (names_members Item (sem p.1) at) ▷ λ keys. some_member_at (sem p.0) keys at ▷ λ m.
      makes_strict 2 (form.Read read.Item) (λ env t. t ≡ plain m) at
  reads_element Key at =
      last_two ▷ λ p. asking (names_members Key (sem p.1) at) ▷ λ keys. member_at (sem p.0) keys at ▷ λ m.
      makes_strict 2 (form.Read read.Key) (EitherOf m IsNil) at

  abbrev pub reads_accessed : Place → Step
  reads_accessed at = takes_access ▷ λ a. reads_element a at

  -- each mapping of the type has the field
  abbrev pub has_key : Text → SemType → Place → Step
  has_key name t at =
      asking (adds (λ env. HaveField name) (Some at)) ▷ λ atom. asking (is_below passes t (Atom atom) (Some at)) ▷ λ b. unless b NoField at

  abbrev pub field_type : Text → SemType → Place → Check State SemType
  field_type name t at = has_key name t at ▷ λ u. member_at t (Field name) at

  abbrev pub reads_field : Word → Place → Step
  reads_field w at =
      last_part ▷ λ e. field_type w.name (sem e) at ▷ λ m. makes_strict 1 (form.Read (read.Field w.name)) (λ env t. t ≡ plain m) at

  abbrev pub reads_optional : Word → Place → Step
  reads_optional w at =
      last_part ▷ λ e. some_member_at (sem e) (Field w.name) at ▷ λ m.
      makes_strict 1 (form.Read (read.OptionalField w.name)) (EitherOf m IsNil) at

  -- ---- stores

  -- a member of the last part but one is stored, at what the last part names
  abbrev pub expects_stored : Place → Step
  expects_stored at =
      last_two ▷ λ p. last_access ▷ λ a. asking (names_members a (sem p.1) at) ▷ λ keys. some_member_at (sem p.0) keys at ▷ λ m.
      wants_some (IsStored (type_of p.0).value keys m)

  -- what is read there before
  abbrev pub stored_type : Access → SemType → SemType → Place → Check State Shared
  stored_type Char container key at = some_over (λ env t. OfKind kind.Text env t.value)
  stored_type Item container key at =
      asking (names_members Item key at) ▷ λ keys. member_at container keys at ▷ λ m. some_over (λ env t. t.value ≡ plain m)
  stored_type Key container key at =
      asking (names_members Key key at) ▷ λ keys. member_at container keys at ▷ λ m. some_over (λ env t. EitherOf m IsNil env t.value)

  abbrev pub reads_stored : Place → Step
  reads_stored at =
      last_two ▷ λ p. last_access ▷ λ a. stored_type a (sem p.0) (sem p.1) at ▷ λ t. wants_some (λ env u. u ≡ t.value)

  abbrev pub reads_stored_field : Word → Place → Step
  reads_stored_field w at = last_two ▷ λ p. field_type w.name (sem p.0) at ▷ λ m. wants_some (λ env t. t ≡ plain m)
