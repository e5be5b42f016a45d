-- The kinds of shapes that typing rows speak of.
use Rattle.std.specs.Prelude.{◌≡◌, ◌⊎◌, List, All, Any, Contains, Bool, ⊤, ℤ}
use Rattle.bal_base.specs.declared.text.Text.{Text}
use Rattle.bal_base.specs.declared.shape.Shape.{Shape, Nil, Bool as BoolShape, Int, Str, List', Mapping', Error', Function, Future', Row_of-Shape, end_of-Shape, more_of-Shape, items-the_row-Shape as shapes_in, Row_of-Fields-items-2 as Row_of-Field, end_of-Fields-items-2 as end_of-Field, more_of-Fields-items-2 as more_of-Field, items-the_row-Fields-items-2 as fields_in}
use Rattle.bal_base.specs.declared.shape.Case.{Case}
use Rattle.bal_base.specs.Shapes.{graph_list}
use Rattle.bal_base.specs.Valid.{IsFrozen, IsMarkedMapping}
use Rattle.type_model.specs.declared.basic.BasicSet.TheVariants.{StringAll, ListAll, MappingAll, ErrorAll, FunctionAll, FutureAll, Readonly}
use Rattle.type_model.specs.Anydata.{IsAnydata}
use Rattle.type_model.specs.Basic.{InBasic}

abbrev pub IsNil : Shape → Type 0
IsNil x = x ≡ Nil

abbrev pub IsBoolean : Shape → Type 0
IsBoolean x = (b : Bool) × (x ≡ BoolShape b)

abbrev pub IsInteger : Shape → Type 0
IsInteger x = (i : ℤ) × (x ≡ Int i)

abbrev pub IsString : Shape → Type 0
IsString x = InBasic x StringAll

abbrev pub IsList : Shape → Type 0
IsList x = InBasic x ListAll

abbrev pub IsMapping : Shape → Type 0
IsMapping x = InBasic x MappingAll

abbrev pub IsError : Shape → Type 0
IsError x = InBasic x ErrorAll

abbrev pub IsFunction : Shape → Type 0
IsFunction x = InBasic x FunctionAll

abbrev pub IsFuture : Shape → Type 0
IsFuture x = InBasic x FutureAll

abbrev pub IsReadonly : Shape → Type 0
IsReadonly x = InBasic x Readonly

-- what may be sent to another worker: anydata, or what can't change
abbrev pub IsSendable : Shape → Type 0
IsSendable x = IsAnydata x ⊎ IsReadonly x

-- what may stand in an immutable structure: anydata that can't change
abbrev pub IsImmutableData : Shape → Type 0
IsImmutableData x = IsFrozen x

-- the detail of some error
abbrev pub IsDetail : Shape → Type 0
IsDetail x = IsMarkedMapping x

-- a mapping that has the key
abbrev pub HasMember : Text → Shape → Type 0
HasMember key (Mapping' mark _ fields) = Any (λ m. m.0 ≡ key) (fields_in _ fields)
HasMember key Nil = ⊥
HasMember key (BoolShape b) = ⊥
HasMember key (Int i) = ⊥
HasMember key (Str t) = ⊥
HasMember key (List' mark _ items) = ⊥
HasMember key (Error' _ detail) = ⊥
HasMember key (Function isolated graph) = ⊥
HasMember key (Future' _ results) = ⊥

-- a future whose results all have the property
abbrev pub IsFutureOf : (Shape → Type 0) → Shape → Type 0
IsFutureOf P (Future' _ results) = All P (shapes_in _ results)
IsFutureOf P Nil = ⊥
IsFutureOf P (BoolShape b) = ⊥
IsFutureOf P (Int i) = ⊥
IsFutureOf P (Str t) = ⊥
IsFutureOf P (List' mark _ items) = ⊥
IsFutureOf P (Mapping' mark _ fields) = ⊥
IsFutureOf P (Error' _ detail) = ⊥
IsFutureOf P (Function isolated graph) = ⊥

-- an error whose detail has members of which all of them together have the property
abbrev pub IsErrorOf : (List (Text × Shape) → Type 0) → Shape → Type 0
IsErrorOf P (Error' _ detail) = of detail
  where
    of : Shape → Type 0
    of (Mapping' mark _ fields) = P (fields_in _ fields)
    of _ = ⊥
IsErrorOf P Nil = ⊥
IsErrorOf P (BoolShape b) = ⊥
IsErrorOf P (Int i) = ⊥
IsErrorOf P (Str t) = ⊥
IsErrorOf P (List' mark _ items) = ⊥
IsErrorOf P (Mapping' mark _ fields) = ⊥
IsErrorOf P (Function isolated graph) = ⊥
IsErrorOf P (Future' _ results) = ⊥

-- the function answers so in this case
abbrev pub AnswersIn : Shape → Case → Type 0
AnswersIn (Function isolated graph) c = Contains (graph_list graph) c
AnswersIn Nil c = ⊥
AnswersIn (BoolShape b) c = ⊥
AnswersIn (Int i) c = ⊥
AnswersIn (Str t) c = ⊥
AnswersIn (List' mark _ items) c = ⊥
AnswersIn (Mapping' mark _ fields) c = ⊥
AnswersIn (Error' _ detail) c = ⊥
AnswersIn (Future' _ results) c = ⊥
