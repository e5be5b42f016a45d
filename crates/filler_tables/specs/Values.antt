-- Simple values, and the sets of shapes as which they are asked about.
use Rattle.std.specs.Prelude.{◌≡◌, pos, negsuc, true, false, [], Option, Some, None}
use Rattle.bal_base.specs.Limits.{greatest_int}
use Rattle.bal_base.specs.declared.shape.Shape.{Shape, Nil as NilShape, Bool as BoolShape, Int as IntShape, Str as StrShape, List', Mapping', Error', Function, Future'}
use Rattle.type_model.specs.declared.basic.BasicSet.{BasicSet}
use Rattle.type_model.specs.declared.basic.BasicSet.TheVariants as set
use Rattle.type_model.specs.declared.basic.SemType.{SemType, Basic, Atom, Or', And', Not'}
use Rattle.value_model.specs.declared.filler.Filler.{Filler}
use Rattle.value_model.specs.declared.filler.Filler.TheVariants.{Nothing, Nil, Bool as Truth, Int, Str, List as NewList, Mapping as NewMapping}
use Rattle.filler_tables.specs.declared.values.Kind.{Kind}
use Rattle.filler_tables.specs.declared.values.Sample.{Sample}
use Rattle.filler_tables.specs.declared.values.Sample.TheVariants.{Empty, Other, Value}

-- what a shape of a type is, where there is one
abbrev pub sample_of_shape : Shape → Sample
sample_of_shape NilShape = Value Nil
sample_of_shape (BoolShape b) = Value (Truth b)
sample_of_shape (IntShape i) = Value (Int i)
sample_of_shape (StrShape s) = Value (Str s)
sample_of_shape (List' mark _ items) = Other
sample_of_shape (Mapping' mark _ fields) = Other
sample_of_shape (Error' _ detail) = Other
sample_of_shape (Function isolated graph) = Other
sample_of_shape (Future' _ results) = Other

abbrev pub sample_of : Option Shape → Sample
sample_of (Some x) = sample_of_shape x
sample_of None = Empty

-- the set of the value alone
abbrev pub alone_of : Filler → BasicSet
alone_of Nil = set.Nil
alone_of (Truth b) = set.Bool b
alone_of (Int i) = set.IntRange i i
alone_of (Str s) = set.StringOne s
alone_of Nothing = set.Never
alone_of (NewList a) = set.Never
alone_of (NewMapping a) = set.Never

-- both booleans, as a type
abbrev pub IsBooleans : SemType → Type 0
IsBooleans (Or' _ s _ t) = (s ≡ Basic (set.Bool true)) × (t ≡ Basic (set.Bool false))
IsBooleans (Basic b) = ⊥
IsBooleans (Atom a) = ⊥
IsBooleans (And' _ s _ t) = ⊥
IsBooleans (Not' _ t) = ⊥

-- all values of the kind of this one, and which of them fills a gap where a type has only such values: `false`, `0` or `""`
abbrev pub IsKindOf : Filler → Kind → Type 0
IsKindOf (Truth b) k = IsBooleans k.whole × (k.first ≡ Truth false)
IsKindOf (Int i) k = (k.whole ≡ Basic (set.IntRange (negsuc greatest_int) (pos greatest_int))) × (k.first ≡ Int (pos 0))
IsKindOf (Str s) k = (k.whole ≡ Basic set.StringAll) × (k.first ≡ Str [])
IsKindOf Nil k = (k.whole ≡ Basic set.Nil) × (k.first ≡ Nil)
IsKindOf Nothing k = (k.whole ≡ Basic set.Never) × (k.first ≡ Nothing)
IsKindOf (NewList a) k = (k.whole ≡ Basic set.Never) × (k.first ≡ Nothing)
IsKindOf (NewMapping a) k = (k.whole ≡ Basic set.Never) × (k.first ≡ Nothing)
