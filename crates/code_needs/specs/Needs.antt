-- What code needs of types: data, so that all needs of a place are known before any question is asked.
use Rattle.std.specs.Prelude.{◌≡◌, ◌⊎◌, ℕ, Bool, List, Any, Option, Some}
use Rattle.bal_base.specs.declared.text.Text.{Text}
use Rattle.bal_base.specs.declared.shape.Shape.{Shape, Str}
use Rattle.type_model.specs.declared.answers.Keys.{Keys}
use Rattle.type_model.specs.declared.atoms.AtomDef.{AtomDef}
use Rattle.type_model.specs.declared.atoms.FieldDef.{FieldDef}
use Rattle.type_model.specs.declared.basic.SemType.{SemType}
use Rattle.type_model.specs.declared.basic.Ty.{Ty}
use Rattle.type_model.specs.Anydata.{IsAnydata}
use Rattle.type_model.specs.Membership.{In}
use Rattle.type_model.specs.Parts.{StandsAt}
use Rattle.operations.specs.declared.operation.Constant.{Constant}
use Rattle.operations.specs.Kinds.{HasMember, IsBoolean, IsDetail, IsError, IsErrorOf, IsFunction, IsFuture, IsFutureOf, IsImmutableData, IsInteger, IsList, IsMapping, IsNil, IsSendable, IsString}
use Rattle.operations.specs.Rows.{IsSingle, IsWithin, MayGive, NeverFails, ResultHas, StandsAtIndex, StandsAtKey, shape_of}
use Rattle.operations.specs.Structures.{IsDetailOf, IsMade, MemberFits}
use Rattle.code_needs.specs.declared.kind.Kind.{Kind}
use Rattle.code_needs.specs.declared.kind.Kind.TheVariants.{Nils, Booleans, Integers, Strings, Lists, Mappings, Errors, Functions, Futures, Anydata, Sendable, ImmutableData, Details, NilsOrErrors, MappingsOrNils, IntegersOrErrors}

abbrev pub IsOfKind : Kind → Shape → Type 0
IsOfKind Nils = IsNil
IsOfKind Booleans = IsBoolean
IsOfKind Integers = IsInteger
IsOfKind Strings = IsString
IsOfKind Lists = IsList
IsOfKind Mappings = IsMapping
IsOfKind Errors = IsError
IsOfKind Functions = IsFunction
IsOfKind Futures = IsFuture
IsOfKind Anydata = IsAnydata
IsOfKind Sendable = IsSendable
IsOfKind ImmutableData = IsImmutableData
IsOfKind Details = IsDetail
IsOfKind NilsOrErrors = λ x. IsNil x ⊎ IsError x
IsOfKind MappingsOrNils = λ x. IsMapping x ⊎ IsNil x
IsOfKind IntegersOrErrors = λ x. IsInteger x ⊎ IsError x

pub data Need : Type 0 where
  -- the first type is below the second
  Below : SemType → SemType → Need
  -- all shapes of the type are of the kind; and all shapes of the kind are in the type
  Within : SemType → Kind → Need
  Has : SemType → Kind → Need
  -- the constant's shape is in the type
  HasConstant : SemType → Constant → Need
  -- what is in both of the last two is in the first
  HasBoth : SemType → SemType → SemType → Need
  -- structures of the atom, immutable ones where so marked, are in the type
  HasMade : SemType → ℕ → Bool → Need
  -- all that stands at such a key of the first type is in the second
  PartIn : SemType → Keys → SemType → Need
  -- each shape of the second type stands at such a key of the first
  PartHas : SemType → Keys → SemType → Need
  -- all that stands in the first type, of lists, at an index that the second names is in the third
  ItemIn : SemType → SemType → SemType → Need
  -- each shape of the third type stands there
  ItemHas : SemType → SemType → SemType → Need
  -- the same of mappings and keys
  MemberIn : SemType → SemType → SemType → Need
  MemberHas : SemType → SemType → SemType → Need
  -- all shapes of the type are mappings that have the key
  HasField : SemType → Text → Need
  -- both are ints, or both are strings
  Ordered : SemType → SemType → Need
  -- no function of the type fails at arguments of these types
  Applies : SemType → List SemType → Need
  -- all that such a function gives is in the last type; and so are futures with such results
  Gives : SemType → List SemType → SemType → Need
  GivesFuture : SemType → List SemType → SemType → Need
  -- the pair's value is below the type of each key of a mapping that the pair's key may be
  FitsFields : List FieldDef → Option Ty → SemType × SemType → Need
  -- some pair has this name as its single key
  Names : List (SemType × SemType) → Text → Need
  -- errors with details of these pairs are in the type
  HasErrorsOf : SemType → List (SemType × SemType) → Need

module _ (env : List AtomDef) where
  -- both are ints, or both are strings
  abbrev pub AreOrdered : SemType → SemType → Type 0
  AreOrdered a b = (IsWithin env IsInteger a × IsWithin env IsInteger b) ⊎ (IsWithin env IsString a × IsWithin env IsString b)

  abbrev pub IsMet : Need → Type 0
  IsMet (Below s t) = IsWithin env (λ x. In env x t) s
  IsMet (Within s kind) = IsWithin env (IsOfKind kind) s
  IsMet (Has r kind) = ResultHas env (Some r) (IsOfKind kind)
  IsMet (HasConstant r c) = ResultHas env (Some r) (λ x. x ≡ shape_of c)
  IsMet (HasBoth r s t) = ResultHas env (Some r) (λ x. In env x s × In env x t)
  IsMet (HasMade r atom immutable) = ResultHas env (Some r) (IsMade env atom immutable)
  IsMet (PartIn s keys r) = ResultHas env (Some r) (StandsAt env s keys)
  IsMet (PartHas s keys v) = IsWithin env (StandsAt env s keys) v
  IsMet (ItemIn l i r) = ResultHas env (Some r) (StandsAtIndex env l i)
  IsMet (ItemHas l i v) = IsWithin env (StandsAtIndex env l i) v
  IsMet (MemberIn m k r) = ResultHas env (Some r) (StandsAtKey env m k)
  IsMet (MemberHas m k v) = IsWithin env (StandsAtKey env m k) v
  IsMet (HasField m name) = IsWithin env (HasMember name) m
  IsMet (Ordered a b) = AreOrdered a b
  IsMet (Applies f args) = NeverFails env f args
  IsMet (Gives f args r) = ResultHas env (Some r) (MayGive env f args)
  IsMet (GivesFuture f args r) = ResultHas env (Some r) (IsFutureOf (MayGive env f args))
  IsMet (FitsFields fields rest pair) = MemberFits env fields rest pair
  IsMet (Names pairs name) = Any (λ p. IsSingle env p.0 (Str name)) pairs
  IsMet (HasErrorsOf r pairs) = ResultHas env (Some r) (IsErrorOf (IsDetailOf env pairs))
