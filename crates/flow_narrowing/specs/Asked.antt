-- The questions that narrowing asks: of each kind of values that stand for many shapes, whether this part of S lies in T.
use Rattle.std.specs.Prelude.{List, false}
use Rattle.type_model.specs.declared.answers.TypeLimit.{TypeLimit}
use Rattle.type_model.specs.declared.atoms.AtomDef.{AtomDef}
use Rattle.type_model.specs.declared.basic.BasicSet.{BasicSet}
use Rattle.type_model.specs.declared.basic.BasicSet.TheVariants.{ListAll, MappingAll, FunctionAll, FutureAll, Readonly}
use Rattle.type_model.specs.declared.basic.SemType.{SemType, Basic, Or', And', Not'}
use Rattle.type_model.specs.Calls.{Asked, Without}
use Rattle.type_model.specs.SameType.{IsSameType}
use Rattle.flow_narrowing.specs.declared.kind.Kind.{Kind}
use Rattle.flow_narrowing.specs.declared.kind.Kind.TheVariants as kind
use Rattle.flow_narrowing.specs.Narrowed.{Part, Lists, Mappings, Functions, Futures}

-- the part of values that stand for many shapes
abbrev pub open_part : Kind → Part
open_part kind.Lists = Lists false
open_part kind.Mappings = Mappings false
open_part kind.Functions = Functions
open_part kind.Futures = Futures

-- all shapes of the kind
abbrev pub all_of : Kind → BasicSet
all_of kind.Lists = ListAll
all_of kind.Mappings = MappingAll
all_of kind.Functions = FunctionAll
all_of kind.Futures = FutureAll

-- the type is written `a & b`, `a | b` or `!a`
abbrev pub IsBoth : (SemType → Type 0) → (SemType → Type 0) → SemType → Type 0
IsBoth P Q (And' _ s _ t) = P s × Q t
IsBoth P Q _ = ⊥

abbrev pub IsEither : (SemType → Type 0) → (SemType → Type 0) → SemType → Type 0
IsEither P Q (Or' _ s _ t) = P s × Q t
IsEither P Q _ = ⊥

abbrev pub IsNot : (SemType → Type 0) → SemType → Type 0
IsNot P (Not' _ t) = P t
IsNot P _ = ⊥

-- the unmarked shapes of the set
abbrev pub IsUnmarkedSet : BasicSet → SemType → Type 0
IsUnmarkedSet b = IsBoth (IsSameType (Basic b)) (IsNot (IsSameType (Basic Readonly)))

-- the set of the open part of the kind
abbrev pub IsOpenSet : Kind → SemType → Type 0
IsOpenSet kind.Lists = IsUnmarkedSet ListAll
IsOpenSet kind.Mappings = IsUnmarkedSet MappingAll
IsOpenSet kind.Functions = IsSameType (Basic FunctionAll)
IsOpenSet kind.Futures = IsSameType (Basic FutureAll)

-- the part of s of such a kind
abbrev pub IsOpenPart : Kind → SemType → SemType → Type 0
IsOpenPart k s = IsBoth (IsSameType s) (IsOpenSet k)

-- the question whether the part of s of some kind lies in t passes the limit
abbrev pub NarrowsBeyond : (List AtomDef → Asked → TypeLimit → Type 0) → List AtomDef → SemType → SemType → TypeLimit → Type 0
NarrowsBeyond passes env s t limit = (k : Kind) × (part : SemType) × IsOpenPart k s part × passes env (Without part t) limit
