-- The kinds of shapes and of values.
use Rattle.std.specs.Prelude.{Bool, IsTrue, Option, Some, None, slice_get}
use Rattle.bal_base.specs.declared.shape.Shape.{Shape, Nil as NilShape, Bool as BoolShape, Int as IntShape, Str as StrShape, List', Mapping', Error', Function as FunctionShape, Future'}
use Rattle.value_model.specs.declared.value.Value.{Value}
use Rattle.value_model.specs.declared.value.Value.TheVariants.{Nil, Bool as Truth, Int, Str, Struct, Error, Function, Future}
use Rattle.value_model.specs.Heap.{Entries, Heap, Items, Members, Structure}

pub data Kind : Type 0 where
  Nils : Kind
  Booleans : Kind
  Ints : Kind
  Strings : Kind
  Lists : Kind
  Mappings : Kind
  Errors : Kind
  Functions : Kind
  Futures : Kind
  -- that of a structure that isn't there
  Nothings : Kind

abbrev pub kind_of : Shape → Kind
kind_of NilShape = Nils
kind_of (BoolShape b) = Booleans
kind_of (IntShape i) = Ints
kind_of (StrShape t) = Strings
kind_of (List' mark _ items) = Lists
kind_of (Mapping' mark _ fields) = Mappings
kind_of (Error' _ detail) = Errors
kind_of (FunctionShape isolated graph) = Functions
kind_of (Future' _ results) = Futures

abbrev pub members_kind : Members → Kind
members_kind (Items vs) = Lists
members_kind (Entries es) = Mappings

abbrev pub structure_kind : Option Structure → Kind
structure_kind (Some s) = members_kind s.members
structure_kind None = Nothings

-- of a value in a heap: a structure is a list or a mapping
abbrev pub value_kind : Heap → Value → Kind
value_kind h Nil = Nils
value_kind h (Truth b) = Booleans
value_kind h (Int i) = Ints
value_kind h (Str t) = Strings
value_kind h (Struct n) = structure_kind (slice_get h.structures n)
value_kind h (Error n) = Errors
value_kind h (Function n) = Functions
value_kind h (Future strand unit) = Futures
