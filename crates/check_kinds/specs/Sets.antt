-- How the kinds of values are written as types.
use Rattle.std.specs.Prelude.{◌≡◌, ◌⊎◌, true, false, pos}
use Rattle.bal_base.specs.Limits.{greatest_int}
use Rattle.bal_base.specs.declared.shape.Shape.{Shape}
use Rattle.descriptors.specs.declared.names.OwnTypes.{OwnTypes}
use Rattle.descriptors.specs.Described.{least_int}
use Rattle.flow_narrowing.specs.Asked.{IsEither}
use Rattle.operations.specs.declared.operation.Constant.{Constant}
use Rattle.operations.specs.declared.operation.Constant.TheVariants as constant
use Rattle.type_model.specs.declared.basic.BasicSet.{BasicSet}
use Rattle.type_model.specs.declared.basic.BasicSet.TheVariants as set
use Rattle.type_model.specs.declared.basic.SemType.{SemType, Basic}
use Rattle.type_model.specs.Anydata.{IsAnydata}
use Rattle.type_model.specs.Basic.{InBasic}
use Rattle.type_model.specs.SameType.{IsSameType}
use Rattle.expr_needs.specs.declared.kind.Kind.{Kind}
use Rattle.expr_needs.specs.declared.kind.Kind.TheVariants as kind
use Rattle.check_kinds.specs.declared.sets.Sets.{Sets}
use Rattle.check_kinds.specs.declared.sets.Sets.TheVariants as sets

abbrev pub all_ints : BasicSet
all_ints = set.IntRange least_int (pos greatest_int)

-- one or two of the sets that the language has words for, or anydata, alone or with such a set
abbrev pub sets_of : Kind → Sets
sets_of kind.Integer = sets.One all_ints
sets_of kind.Text = sets.One set.StringAll
sets_of kind.IntOrText = sets.Two all_ints set.StringAll
sets_of kind.Truth = sets.Two (set.Bool true) (set.Bool false)
sets_of kind.Nothing = sets.One set.Nil
sets_of kind.Anydata = sets.Data
sets_of kind.Sendable = sets.DataOr set.Readonly
sets_of kind.AnyList = sets.One set.ListAll
sets_of kind.AnyMapping = sets.One set.MappingAll
sets_of kind.MappingOrNil = sets.Two set.MappingAll set.Nil
sets_of kind.AnyFunction = sets.One set.FunctionAll
sets_of kind.AnyError = sets.One set.ErrorAll
sets_of kind.ErrorOrNil = sets.Two set.ErrorAll set.Nil
sets_of kind.AnyFuture = sets.One set.FutureAll

-- the shape is in one of these
abbrev pub IsInSets : Sets → Shape → Type 0
IsInSets (sets.One b) x = InBasic x b
IsInSets (sets.Two b c) x = InBasic x b ⊎ InBasic x c
IsInSets sets.Data x = IsAnydata x
IsInSets (sets.DataOr b) x = IsAnydata x ⊎ InBasic x b

-- the type is written so
abbrev pub IsWritten : OwnTypes → Sets → SemType → Type 0
IsWritten own (sets.One b) t = t ≡ Basic b
IsWritten own (sets.Two b c) t = IsEither (λ s. s ≡ Basic b) (λ s. s ≡ Basic c) t
IsWritten own sets.Data t = IsSameType own.anydata.sem t
IsWritten own (sets.DataOr b) t = IsEither (IsSameType own.anydata.sem) (λ s. s ≡ Basic b) t

-- the set of this value alone
abbrev pub constant_set : Constant → BasicSet
constant_set constant.Nil = set.Nil
constant_set (constant.Bool b) = set.Bool b
constant_set (constant.Int i) = set.IntRange i i
constant_set (constant.Str t) = set.StringOne t
