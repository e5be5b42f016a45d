-- How kinds are written as types.
use Rattle.std.specs.Prelude.{◌⊎◌, true, false, pos, negsuc, ◌≡◌, IsSomeAnd, List, Option, Some, None}
use Rattle.bal_base.specs.Limits.{greatest_int}
use Rattle.bal_base.specs.declared.shape.Shape.{Shape}
use Rattle.type_model.specs.declared.basic.BasicSet.{BasicSet}
use Rattle.type_model.specs.declared.basic.BasicSet.TheVariants as set
use Rattle.type_model.specs.Anydata.{IsAnydata}
use Rattle.type_model.specs.declared.atoms.AtomDef.{AtomDef}
use Rattle.type_model.specs.declared.basic.SemType.{SemType, Basic, Or', And', Not'}
use Rattle.type_model.specs.Defined.{IsDefined}
use Rattle.type_model.specs.Inclusion.{HasExactly}
use Rattle.operations.specs.Kinds.{IsSendable}
use Rattle.type_model.specs.Basic.{InBasic}
use Rattle.operations.specs.declared.operation.Constant.{Constant}
use Rattle.operations.specs.declared.operation.Constant.TheVariants as constant
use Rattle.code_needs.specs.declared.kind.Kind.{Kind}
use Rattle.code_needs.specs.declared.kind.Kind.TheVariants as kind
use Rattle.code_verifier.specs.declared.kind_types.KnownTypes.{KnownTypes}
use Rattle.code_verifier.specs.declared.sets.Sets.{Sets}
use Rattle.code_verifier.specs.declared.sets.Sets.TheVariants as sets

abbrev pub all_ints : BasicSet
all_ints = set.IntRange (negsuc greatest_int) (pos greatest_int)

-- the sets of which the kind is; anydata is no set, and is known
abbrev pub sets_of : Kind → Option Sets
sets_of kind.Nils = Some (sets.One set.Nil)
sets_of kind.Booleans = Some (sets.Either (set.Bool true) (set.Bool false))
sets_of kind.Integers = Some (sets.One all_ints)
sets_of kind.Strings = Some (sets.One set.StringAll)
sets_of kind.Lists = Some (sets.One set.ListAll)
sets_of kind.Mappings = Some (sets.One set.MappingAll)
sets_of kind.Errors = Some (sets.One set.ErrorAll)
sets_of kind.Functions = Some (sets.One set.FunctionAll)
sets_of kind.Futures = Some (sets.One set.FutureAll)
sets_of kind.Anydata = None
sets_of kind.Sendable = None
sets_of kind.ImmutableData = Some sets.Frozen
sets_of kind.Details = Some (sets.Both set.MappingAll set.Readonly)
sets_of kind.NilsOrErrors = Some (sets.Either set.Nil set.ErrorAll)
sets_of kind.MappingsOrNils = Some (sets.Either set.MappingAll set.Nil)
sets_of kind.IntegersOrErrors = Some (sets.Either all_ints set.ErrorAll)

-- what is readonly, but for errors and functions
abbrev pub IsReadonlyData : Shape → Type 0
IsReadonlyData x = (InBasic x set.Readonly × (¬ (InBasic x set.ErrorAll))) × (¬ (InBasic x set.FunctionAll))

abbrev pub IsInSets : Sets → Shape → Type 0
IsInSets (sets.One b) x = InBasic x b
IsInSets (sets.Either b c) x = InBasic x b ⊎ InBasic x c
IsInSets (sets.Both b c) x = InBasic x b × InBasic x c
IsInSets sets.Frozen x = IsReadonlyData x

-- the set of this value alone
abbrev pub constant_set : Constant → BasicSet
constant_set constant.Nil = set.Nil
constant_set (constant.Bool b) = set.Bool b
constant_set (constant.Int i) = set.IntRange i i
constant_set (constant.Str t) = set.StringOne t

-- the types of anydata and of what may be sent, which name atoms that are there
pub record AreKnown (env : List AtomDef) (known : KnownTypes) : Type 0 where
  pub anydata : HasExactly env known.anydata IsAnydata
  pub anydata_defined : IsDefined env known.anydata
  pub sendable : HasExactly env known.sendable IsSendable
  pub sendable_defined : IsDefined env known.sendable

-- ---- the types that are asked about

-- put together of such two types
abbrev pub IsEither : (SemType → Type 0) → (SemType → Type 0) → SemType → Type 0
IsEither P Q (Or' _ s _ t) = P s × Q t
IsEither P Q _ = ⊥

abbrev pub IsBoth : (SemType → Type 0) → (SemType → Type 0) → SemType → Type 0
IsBoth P Q (And' _ s _ t) = P s × Q t
IsBoth P Q _ = ⊥

-- all but the set
abbrev pub IsAllBut : BasicSet → SemType → Type 0
IsAllBut b (Not' _ t) = t ≡ Basic b
IsAllBut b _ = ⊥

-- sets as they are written
abbrev pub IsWritten : Sets → SemType → Type 0
IsWritten (sets.One b) t = t ≡ Basic b
IsWritten (sets.Either b c) t = IsEither (λ s. s ≡ Basic b) (λ s. s ≡ Basic c) t
IsWritten (sets.Both b c) t = IsBoth (λ s. s ≡ Basic b) (λ s. s ≡ Basic c) t
IsWritten sets.Frozen t = IsBoth (IsBoth (λ s. s ≡ Basic set.Readonly) (IsAllBut set.ErrorAll)) (IsAllBut set.FunctionAll) t

-- the known type of a kind that has anydata in it
abbrev pub IsKnown : KnownTypes → Kind → SemType → Type 0
IsKnown known kind.Anydata t = t ≡ known.anydata
IsKnown known kind.Sendable t = t ≡ known.sendable
IsKnown known _ t = ⊥

-- a kind as it is asked about: its sets as they are written, or the known type
abbrev pub IsKindType : KnownTypes → Kind → SemType → Type 0
IsKindType known k t = IsSomeAnd (sets_of k) (λ all. IsWritten all t) ⊎ IsKnown known k t
