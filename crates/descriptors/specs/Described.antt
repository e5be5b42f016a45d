-- What type descriptors mean, as checks in order.
use Rattle.std.specs.Prelude.{◌≡◌, ◌==◌, ◌⊎◌, ℕ, ℤ, Bool, true, false, List, [], ◌∷◌, ◌++◌, length, map, fold, All, Option, None, Some, Result, Ok, Err, if◌then◌else◌, pos, negsuc}
use Rattle.std.specs.List.{list_any}
use Rattle.std.specs.Int.{int_wrapping_neg, w64}
use Rattle.bal_base.specs.Limits.{greatest_int}
use Rattle.bal_base.specs.declared.fault.FaultCode.{FaultCode}
use Rattle.bal_base.specs.declared.fault.FaultCode.TheVariants.{Duplicate}
use Rattle.bal_base.specs.declared.fault.Kept.TheVariants.{Nothing}
use Rattle.bal_base.specs.declared.place.Place.{Place}
use Rattle.bal_base.specs.declared.text.Text.{Text}
use Rattle.bal_base.specs.declared.shape.Shape.{Shape, Nil, Bool as BoolShape, Int, Str, List', Mapping', Error', Function, Future'}
use Rattle.bal_tree.specs.declared.name.ConstValue.{ConstValue}
use Rattle.bal_tree.specs.declared.name.ConstValue.TheVariants.{Literal as LiteralValue, Negative as NegativeValue}
use Rattle.bal_tree.specs.declared.name.Literal.{Literal}
use Rattle.bal_tree.specs.declared.name.Literal.TheVariants.{Int as IntLiteral, Str as StrLiteral, True as TrueLiteral, False as FalseLiteral, Nil as NilLiteral}
use Rattle.bal_tree.specs.declared.name.Word.{Word}
use Rattle.bal_tree.specs.declared.types.BuiltinType.{BuiltinType}
use Rattle.bal_tree.specs.declared.types.BuiltinType.TheVariants.{Int as IntWord, String as StringWord, Boolean as BooleanWord, Byte as ByteWord, Any as AnyWord, AnyData as AnyDataWord, Never as NeverWord, ReadOnly as ReadOnlyWord}
use Rattle.type_model.specs.declared.atoms.AtomDef.{AtomDef}
use Rattle.type_model.specs.declared.atoms.AtomDef.TheVariants.{List as ListAtom, Mapping as MappingAtom, Arrow, Error as ErrorAtom, Future as FutureAtom}
use Rattle.type_model.specs.declared.atoms.FieldDef.{FieldDef}
use Rattle.type_model.specs.declared.basic.BasicSet.{BasicSet}
use Rattle.type_model.specs.declared.basic.BasicSet.TheVariants.{Nil as NilOnly, Bool as BoolOne, IntRange, StringOne, StringAll, ErrorAll, FunctionAll, Readonly, Never}
use Rattle.type_model.specs.declared.basic.Choice.{Choice}
use Rattle.type_model.specs.declared.basic.SemType.{SemType, Basic, Atom}
use Rattle.type_model.specs.declared.basic.Ty.{Ty}
use Rattle.type_model.specs.Anydata.{IsAnydata}
use Rattle.type_model.specs.Basic.{InBasic}
use Rattle.type_model.specs.Inclusion.{HasExactly}
use Rattle.type_model.specs.Membership.{In}
use Rattle.type_model.specs.Places.{is_same_text}
use Rattle.type_model.specs.SameType.{IsSameType}
use Rattle.checks.specs.Checks.{Check, ◌▷◌, either, gives, gives_some, refuses}
use Rattle.checks.specs.Questions.{adds, IsFault}
use Rattle.descriptors.specs.declared.names.Names.{Names}
use Rattle.descriptors.specs.declared.names.Scope.{Scope}
use Rattle.descriptors.specs.Descriptors.{Descriptor, builtin, value, named, optional, union, intersection, array, repeated, tuple, map_of, closed_record, open_record, any_error, error_with, any_function, function_from, future_of, Descriptors, no_more, then_more, FieldDescriptors, no_field, then_field, MaybeDescriptor, absent, present, is_readonly}
use Rattle.descriptors.specs.Naming.{type_named}

-- the state of a check of descriptors: the definitions of the atoms that are there
abbrev pub Atoms : Type 0
Atoms = List AtomDef

-- a type, or types, of which this holds over the atoms that are there, and still does where more stand behind them
abbrev pub by_now : (A : Type 0) → (Atoms → A → Type 0) → Check Atoms A
by_now A P = gives_some (λ env a. (more : Atoms) → P (env ++ more) a)

-- ---- types

-- the type has exactly the shapes of which P holds, and these constructor choices
pub record HasMeaning (P : Shape → Type 0) (list_choices map_choices : List Choice) (env : List AtomDef) (t : Ty) : Type 0 where
  pub shapes : HasExactly env t.sem P
  pub lists : t.lists ≡ list_choices
  pub maps : t.maps ≡ map_choices

-- the same without choices
abbrev pub IsPlain : (Shape → Type 0) → List AtomDef → Ty → Type 0
IsPlain P = HasMeaning P [] []

-- the type without choices
abbrev pub plain : SemType → Ty
plain s = record { sem = s; lists = []; maps = [] }

-- a constructor that makes its value mutable
abbrev pub choice_of : ℕ → Choice
choice_of atom = record { atom = atom; immutable = false }

-- the types of the lists and of the mappings of an atom
abbrev pub list_of : ℕ → Ty
list_of atom = record { sem = Atom atom; lists = choice_of atom ∷ []; maps = [] }

abbrev pub mapping_of : ℕ → Ty
mapping_of atom = record { sem = Atom atom; lists = []; maps = choice_of atom ∷ [] }

-- another copy of the type
pub record IsCopy (s t : Ty) : Type 0 where
  pub sem : IsSameType s.sem t.sem
  pub lists : s.lists ≡ t.lists
  pub maps : s.maps ≡ t.maps

-- ---- choices

abbrev pub is_chosen : List Choice → Choice → Bool
is_chosen choices c = list_any (λ d. d.atom == c.atom) choices

abbrev pub with_choice : List Choice → Choice → List Choice
with_choice choices c = if is_chosen choices c then choices else choices ++ c ∷ []

-- the choices of the first list, and behind them those of the second whose atom isn't there yet
abbrev pub with_choices : List Choice → List Choice → List Choice
with_choices = fold with_choice

-- for immutable values
abbrev pub immutable_choice : Choice → Choice
immutable_choice c = record { atom = c.atom; immutable = true }

abbrev pub made_immutable : List Choice → List Choice
made_immutable = map immutable_choice

-- the choices of an intersection: those of the left side where the right one is `readonly`, and else none
abbrev pub choices_with : Bool → List Choice → List Choice
choices_with true choices = made_immutable choices
choices_with false choices = []

-- a type with the same shapes and the same choices
abbrev pub IsRewritten : Ty → Atoms → Ty → Type 0
IsRewritten t env = HasMeaning (λ x. In env x t.sem) t.lists t.maps env

abbrev pub rewritten : Ty → Check Atoms Ty
rewritten t = by_now Ty (IsRewritten t)

-- ---- sets of shapes

abbrev pub least_int : ℤ
least_int = negsuc greatest_int

abbrev pub IsIsolatedFunction : Shape → Type 0
IsIsolatedFunction Nil = ⊥
IsIsolatedFunction (BoolShape b) = ⊥
IsIsolatedFunction (Int i) = ⊥
IsIsolatedFunction (Str t) = ⊥
IsIsolatedFunction (List' mark _ items) = ⊥
IsIsolatedFunction (Mapping' mark _ fields) = ⊥
IsIsolatedFunction (Error' _ detail) = ⊥
IsIsolatedFunction (Function isolated graph) = isolated ≡ true
IsIsolatedFunction (Future' _ results) = ⊥

-- the set of a single value
abbrev pub literal_set : Literal → BasicSet
literal_set (IntLiteral n at) = IntRange n n
literal_set (StrLiteral t at) = StringOne t
literal_set (TrueLiteral at) = BoolOne true
literal_set (FalseLiteral at) = BoolOne false
literal_set (NilLiteral at) = NilOnly

abbrev pub value_set : ConstValue → BasicSet
value_set (LiteralValue l) = literal_set l
value_set (NegativeValue n at) = IntRange (int_wrapping_neg w64 n) (int_wrapping_neg w64 n)

-- ---- what single descriptors give

-- the type that a name stands for
abbrev pub gives_named : {S : Type 0} → Result Ty FaultCode → Place → Check S Ty
gives_named (Ok t) at = gives_some (λ s u. IsCopy t u)
gives_named (Err code) at = refuses (λ s f. IsFault code (Some at) Nothing f)

abbrev pub field_of : Word → Bool → Ty → FieldDef
field_of name may_lack t = record { name = name.name; ty = t; optional = may_lack }

abbrev pub names_of : List FieldDef → List Text
names_of fields = map (λ f. f.name) fields

-- a field more: none of the names that are taken is its own
abbrev pub new_field : {S : Type 0} → List Text → Word → Bool → Ty → Check S FieldDef
new_field taken name may_lack t = either (list_any (is_same_text name.name) taken)
    (refuses (λ s f. IsFault Duplicate (Some name.at) Nothing f)) (gives (field_of name may_lack t))

-- the type is the one that is this keyword
abbrev pub IsBuiltin : BuiltinType → Atoms → Ty → Type 0
IsBuiltin IntWord env t = t ≡ plain (Basic (IntRange least_int (pos greatest_int)))
IsBuiltin StringWord env t = t ≡ plain (Basic StringAll)
IsBuiltin BooleanWord env t = IsPlain (λ x. InBasic x (BoolOne true) ⊎ InBasic x (BoolOne false)) env t
IsBuiltin ByteWord env t = t ≡ plain (Basic (IntRange (pos 0) (pos 255)))
IsBuiltin AnyWord env t = IsPlain (λ x. ¬ InBasic x ErrorAll) env t
IsBuiltin AnyDataWord env t = IsPlain IsAnydata env t
IsBuiltin NeverWord env t = t ≡ plain (Basic Never)
IsBuiltin ReadOnlyWord env t = t ≡ plain (Basic Readonly)

-- all functions, or all isolated ones
abbrev pub IsAnyFunction : Bool → Atoms → Ty → Type 0
IsAnyFunction false env t = t ≡ plain (Basic FunctionAll)
IsAnyFunction true env t = IsPlain IsIsolatedFunction env t

-- T or nil, with the choices of T
abbrev pub IsOptional : Ty → Atoms → Ty → Type 0
IsOptional t env = HasMeaning (λ x. In env x t.sem ⊎ InBasic x NilOnly) t.lists t.maps env

-- the union, with the choices of both sides
abbrev pub IsUnion : Ty → Ty → Atoms → Ty → Type 0
IsUnion s t env = HasMeaning (λ x. In env x s.sem ⊎ In env x t.sem) (with_choices s.lists t.lists) (with_choices s.maps t.maps) env

-- the intersection; `immutable`: the right side is `readonly`
abbrev pub IsIntersection : Bool → Ty → Ty → Atoms → Ty → Type 0
IsIntersection immutable s t env =
    HasMeaning (λ x. In env x s.sem × In env x t.sem) (choices_with immutable s.lists) (choices_with immutable s.maps) env

-- so many copies of the type
abbrev pub AreCopies : ℕ → Ty → Atoms → List Ty → Type 0
AreCopies count t env copies = (length copies ≡ count) × All (IsCopy t) copies

-- parameters, and what takes the rest
abbrev pub params_of : List Ty → Option Ty → List Ty × Option Ty
params_of fixed rest = (fixed, rest)

-- how often `T[n]` has T
abbrev pub count_of : ℤ → ℕ
count_of (pos n) = n
count_of (negsuc n) = 0

-- ---- the table

-- S: the states of the checks; atom: an atom more, by its definition
module _ {S : Type 0} (atom : AtomDef → Place → Check S ℕ) where
  abbrev pub list_by : List Ty → Option Ty → Place → Check S Ty
  list_by fixed rest at = atom (ListAtom fixed rest) at ▷ λ number. gives (list_of number)

  abbrev pub mapping_by : List FieldDef → Option Ty → Place → Check S Ty
  mapping_by fields rest at = atom (MappingAtom fields rest) at ▷ λ number. gives (mapping_of number)

  -- an atom of another kind
  abbrev pub plain_by : AtomDef → Place → Check S Ty
  plain_by def at = atom def at ▷ λ number. gives (plain (Atom number))

  -- functions whose arguments are such lists
  abbrev pub arrow_by : Bool → List Ty → Option Ty → SemType → Place → Check S Ty
  arrow_by isolated fixed rest result at =
      atom (ListAtom fixed rest) at ▷ λ arguments. plain_by (Arrow (Atom arguments) result isolated) at

  -- some: a type, or types, of which this holds over the atoms
  module _ (some : (A : Type 0) → (Atoms → A → Type 0) → Check S A) (names : Names) (scope : Scope) where
    abbrev mutual
      -- The type that a descriptor means. Its parts come before it, from left to right.
      pub described_by : Descriptor → Check S Ty
      described_by (builtin b) = some Ty (IsBuiltin b)
      described_by (value v) = gives (plain (Basic (value_set v)))
      described_by (named name) = gives_named (type_named names scope name) name.at
      described_by (optional of) = described_by of ▷ λ t. some Ty (IsOptional t)
      described_by (union left right) = described_by left ▷ λ s. described_by right ▷ λ t. some Ty (IsUnion s t)
      described_by (intersection left right) =
          described_by left ▷ λ s. described_by right ▷ λ t. some Ty (IsIntersection (is_readonly right) s t)
      described_by (array member at) = described_by member ▷ λ t. list_by [] (Some t) at
      described_by (repeated member n at) =
          described_by member ▷ λ t. some (List Ty) (AreCopies (count_of n) t) ▷ λ copies. list_by copies None at
      described_by (tuple members rest at) = all_by [] members ▷ λ fixed. if_by rest ▷ λ r. list_by fixed r at
      described_by (map_of member at) = described_by member ▷ λ t. mapping_by [] (Some t) at
      described_by (closed_record fields rest at) = fields_by [] fields ▷ λ fs. if_by rest ▷ λ r. mapping_by fs r at
      described_by (open_record fields at) =
          fields_by [] fields ▷ λ fs. some Ty (IsBuiltin AnyDataWord) ▷ λ r. mapping_by fs (Some r) at
      described_by any_error = gives (plain (Basic ErrorAll))
      described_by (error_with detail at) = described_by detail ▷ λ t. plain_by (ErrorAtom t.sem) at
      described_by (any_function isolated) = some Ty (IsAnyFunction isolated)
      described_by (function_from isolated params rest result at) =
          (all_by [] params ▷ λ fixed. if_by rest ▷ λ r. gives (params_of fixed r)) ▷ λ ps. result_by result ▷ λ out.
          arrow_by isolated ps.0 ps.1 out.sem at
      described_by (future_of result at) = described_by result ▷ λ t. plain_by (FutureAtom t.sem) at

      -- the types of a list of descriptors, behind those that are done
      pub all_by : List Ty → Descriptors → Check S (List Ty)
      all_by done no_more = gives done
      all_by done (then_more d ds) = described_by d ▷ λ t. all_by (done ++ t ∷ []) ds

      -- the fields of a record, behind those that are done
      pub fields_by : List FieldDef → FieldDescriptors → Check S (List FieldDef)
      fields_by done no_field = gives done
      fields_by done (then_field name may_lack d fs) =
          (described_by d ▷ λ t. new_field (names_of done) name may_lack t) ▷ λ field. fields_by (done ++ field ∷ []) fs

      -- what may be absent
      pub if_by : MaybeDescriptor → Check S (Option Ty)
      if_by absent = gives None
      if_by (present d) = described_by d ▷ λ t. gives (Some t)

      -- what a function gives: nil where nothing is said
      pub result_by : MaybeDescriptor → Check S Ty
      result_by absent = gives (plain (Basic NilOnly))
      result_by (present d) = described_by d

-- ---- the table where atoms are added, each behind those that are there

-- an atom more, which has this definition; this gives its number
abbrev pub new_atom : AtomDef → Place → Check Atoms ℕ
new_atom def at = adds (λ old group. group ≡ def ∷ []) (Some at)

module _ (names : Names) (scope : Scope) where
  abbrev pub described : Descriptor → Check Atoms Ty
  described = described_by new_atom by_now names scope

  -- the type of a whole descriptor, written again
  abbrev pub described_whole : Descriptor → Check Atoms Ty
  described_whole d = described d ▷ λ t. rewritten t
