-- Type descriptors without what only says how they are written: parentheses, and which operators bind tighter.
use Rattle.std.specs.Prelude.{List, [], ◌∷◌, Bool, true, false, ℤ, Option, None, Some}
use Rattle.std.specs.Global.{Box}
use Rattle.bal_base.specs.declared.place.Place.{Place}
use Rattle.bal_tree.specs.declared.name.ConstValue.{ConstValue}
use Rattle.bal_tree.specs.declared.name.ConstValue.TheVariants.{Literal as LiteralValue, Negative as NegativeValue}
use Rattle.bal_tree.specs.declared.name.QualifiedName.{QualifiedName}
use Rattle.bal_tree.specs.declared.name.Word.{Word}
use Rattle.bal_tree.specs.declared.types.BuiltinType.{BuiltinType}
use Rattle.bal_tree.specs.declared.types.BuiltinType.TheVariants.{Int, String, Boolean, Byte, Any, AnyData, Never, ReadOnly}
use Rattle.bal_tree.specs.declared.types.IntersectionType.{IntersectionType, IntersectionType-F, fold-IntersectionType}
use Rattle.bal_tree.specs.declared.types.IntersectionType.TheOpen as layer
use Rattle.bal_tree.specs.declared.types.PostfixType.{PostfixType, PostfixType-F, fold-PostfixType}
use Rattle.bal_tree.specs.declared.types.PrimaryType.{PrimaryType, PrimaryType-F, fold-PrimaryType}
use Rattle.bal_tree.specs.declared.types.TypeTree.{TypeTree, TypeTree-F, fold-TypeTree}
use Rattle.bal_tree.specs.declared.types.FieldTree.{FieldTree, FieldTree-F, fold-FieldTree}
use Rattle.bal_tree.specs.declared.types.ParamType.{ParamType, ParamType-F, fold-ParamType}
use Rattle.bal_tree.specs.declared.types.ParamTypes.{ParamTypes, ParamTypes-F, fold-ParamTypes}

-- Where a descriptor needs an atom, it has the place of its first token.
mutual
  pub data Descriptor : Type 0 where
    -- `int`
    builtin : BuiltinType → Descriptor
    -- `1`
    value : ConstValue → Descriptor
    -- `m:T`
    named : QualifiedName → Descriptor
    -- `T?`
    optional : Descriptor → Descriptor
    -- `S|T`
    union : Descriptor → Descriptor → Descriptor
    -- `S&T`
    intersection : Descriptor → Descriptor → Descriptor
    -- `T[]`
    array : Descriptor → Place → Descriptor
    -- `T[3]`
    repeated : Descriptor → ℤ → Place → Descriptor
    -- `[S, T, R...]`
    tuple : Descriptors → MaybeDescriptor → Place → Descriptor
    -- `map<T>`
    map_of : Descriptor → Place → Descriptor
    -- `record {| S a; T b?; R...; |}`
    closed_record : FieldDescriptors → MaybeDescriptor → Place → Descriptor
    -- `record { S a; T b?; }`
    open_record : FieldDescriptors → Place → Descriptor
    -- `error`
    any_error : Descriptor
    -- `error<T>`
    error_with : Descriptor → Place → Descriptor
    -- `function`, and whether behind `isolated`
    any_function : Bool → Descriptor
    -- `function (S, T, R...) returns U`, and whether behind `isolated`
    function_from : Bool → Descriptors → MaybeDescriptor → MaybeDescriptor → Place → Descriptor
    -- `future<T>`
    future_of : Descriptor → Place → Descriptor

  pub data Descriptors : Type 0 where
    no_more : Descriptors
    then_more : Descriptor → Descriptors → Descriptors

  -- each with its name, and whether it may be lacking
  pub data FieldDescriptors : Type 0 where
    no_field : FieldDescriptors
    then_field : Word → Bool → Descriptor → FieldDescriptors → FieldDescriptors

  pub data MaybeDescriptor : Type 0 where
    absent : MaybeDescriptor
    present : Descriptor → MaybeDescriptor

-- a field, and what stands between the parentheses of a function type
pub record FieldOf : Type 0 where
  pub name : Word
  pub optional : Bool
  pub ty : Descriptor

pub record ParamsOf : Type 0 where
  pub params : Descriptors
  pub rest : MaybeDescriptor

abbrev pub in_a_row : List Descriptor → Descriptors
in_a_row [] = no_more
in_a_row (d ∷ ds) = then_more d (in_a_row ds)

abbrev pub fields_in_a_row : List FieldOf → FieldDescriptors
fields_in_a_row [] = no_field
fields_in_a_row (f ∷ fs) = then_field f.name f.optional f.ty (fields_in_a_row fs)

abbrev pub if_there : Option (Box Descriptor) → MaybeDescriptor
if_there None = absent
if_there (Some d) = present d.value

-- `error`, or with a detail `error<T>`
abbrev pub error_of : MaybeDescriptor → Place → Descriptor
error_of absent at = any_error
error_of (present d) at = error_with d at

-- ---- the descriptor that a tree is

abbrev D : Type 0
D = Descriptor

abbrev type_step : TypeTree-F D D D D FieldOf D ParamsOf → D
type_step (layer.Intersection t) = t
type_step (layer.Union left right at) = union left.value right.value

abbrev intersection_step : IntersectionType-F D D D D FieldOf D ParamsOf → D
intersection_step (layer.Postfix t) = t
intersection_step (layer.Both left right at) = intersection left.value right.value

abbrev postfix_step : PostfixType-F D D D D FieldOf D ParamsOf → D
postfix_step (layer.Primary t) = t
postfix_step (layer.Optional of at) = optional of.value
postfix_step (layer.Array member at) = array member.value at
postfix_step (layer.FixedArray member n at) = repeated member.value n at

abbrev primary_step : PrimaryType-F D D D D FieldOf D ParamsOf → D
primary_step (layer.Builtin b at) = builtin b
primary_step (layer.Literal l) = value (LiteralValue l)
primary_step (layer.Negative n at) = value (NegativeValue n at)
primary_step (layer.Parens inner at) = inner.value
primary_step (layer.Name n) = named n
primary_step (layer.Map member at) = map_of member.value at
primary_step (layer.Future result at) = future_of result.value at
primary_step (layer.Error detail at) = error_of (if_there detail) at
primary_step (layer.Tuple members rest at) = tuple (in_a_row members.items) (if_there rest) at
primary_step (layer.ClosedRecord fields rest at) = closed_record (fields_in_a_row fields.items) (if_there rest) at
primary_step (layer.OpenRecord fields at) = open_record (fields_in_a_row fields.items) at
primary_step (layer.AnyFunction isolated at) = any_function isolated
primary_step (layer.Function isolated params result at) = function_from isolated params.params params.rest (if_there result) at

abbrev field_step : FieldTree-F D D D D FieldOf D ParamsOf → FieldOf
field_step f = record { name = f.name; optional = f.optional; ty = f.ty.value }

abbrev param_type_step : ParamType-F D D D D FieldOf D ParamsOf → D
param_type_step p = p.ty.value

abbrev param_types_step : ParamTypes-F D D D D FieldOf D ParamsOf → ParamsOf
param_types_step p = record { params = in_a_row p.params.items; rest = if_there p.rest }

abbrev pub descriptor_of : TypeTree → Descriptor
descriptor_of = fold-TypeTree D D D D FieldOf D ParamsOf intersection_step postfix_step primary_step type_step field_step param_type_step param_types_step

abbrev pub of_intersection : IntersectionType → Descriptor
of_intersection = fold-IntersectionType D D D D FieldOf D ParamsOf intersection_step postfix_step primary_step type_step field_step param_type_step param_types_step

abbrev pub of_postfix : PostfixType → Descriptor
of_postfix = fold-PostfixType D D D D FieldOf D ParamsOf intersection_step postfix_step primary_step type_step field_step param_type_step param_types_step

abbrev pub of_primary : PrimaryType → Descriptor
of_primary = fold-PrimaryType D D D D FieldOf D ParamsOf intersection_step postfix_step primary_step type_step field_step param_type_step param_types_step

abbrev pub of_field : FieldTree → FieldOf
of_field = fold-FieldTree D D D D FieldOf D ParamsOf intersection_step postfix_step primary_step type_step field_step param_type_step param_types_step

abbrev pub of_param : ParamType → Descriptor
of_param = fold-ParamType D D D D FieldOf D ParamsOf intersection_step postfix_step primary_step type_step field_step param_type_step param_types_step

abbrev pub of_params : ParamTypes → ParamsOf
of_params = fold-ParamTypes D D D D FieldOf D ParamsOf intersection_step postfix_step primary_step type_step field_step param_type_step param_types_step

abbrev pub descriptor_if : Option (Box TypeTree) → MaybeDescriptor
descriptor_if None = absent
descriptor_if (Some tree) = present (descriptor_of tree.value)

-- ---- whether the descriptor is the word `readonly`

abbrev pub is_readonly_word : BuiltinType → Bool
is_readonly_word Int = false
is_readonly_word String = false
is_readonly_word Boolean = false
is_readonly_word Byte = false
is_readonly_word Any = false
is_readonly_word AnyData = false
is_readonly_word Never = false
is_readonly_word ReadOnly = true

abbrev pub is_readonly : Descriptor → Bool
is_readonly (builtin b) = is_readonly_word b
is_readonly (value v) = false
is_readonly (named name) = false
is_readonly (optional of) = false
is_readonly (union s t) = false
is_readonly (intersection s t) = false
is_readonly (array member at) = false
is_readonly (repeated member n at) = false
is_readonly (tuple members rest at) = false
is_readonly (map_of member at) = false
is_readonly (closed_record fields rest at) = false
is_readonly (open_record fields at) = false
is_readonly any_error = false
is_readonly (error_with detail at) = false
is_readonly (any_function isolated) = false
is_readonly (function_from isolated params rest result at) = false
is_readonly (future_of result at) = false
