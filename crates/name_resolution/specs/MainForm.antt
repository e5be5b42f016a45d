-- What is seen of the function `main` where it is written: whether it can be what it has to be.
use Rattle.std.specs.Prelude.{◌&&◌, ◌||◌, Bool, true, false, not, List, [], ◌∷◌, Option, None, Some, codes}
use Rattle.bal_base.specs.declared.text.Name.{Name}
use Rattle.bal_tree.specs.declared.def.FunctionDef.{FunctionDef}
use Rattle.bal_tree.specs.declared.name.ConstValue.{ConstValue}
use Rattle.bal_tree.specs.declared.name.ConstValue.TheVariants.{Literal as LiteralValue, Negative as NegativeValue}
use Rattle.bal_tree.specs.declared.name.Literal.{Literal}
use Rattle.bal_tree.specs.declared.name.Literal.TheVariants.{Int as IntLiteral, Str as StrLiteral, True as TrueLiteral, False as FalseLiteral, Nil as NilLiteral}
use Rattle.bal_tree.specs.declared.params.Param.{Param}
use Rattle.bal_tree.specs.declared.types.BuiltinType.{BuiltinType}
use Rattle.bal_tree.specs.declared.types.BuiltinType.TheVariants.{Int, String, Boolean, Byte, Any, AnyData, Never, ReadOnly}
use Rattle.descriptors.specs.Descriptors.{Descriptor, builtin, value, named, optional, union, intersection, array, repeated, tuple, map_of, closed_record, open_record, any_error, error_with, any_function, function_from, future_of, MaybeDescriptor, absent, present, descriptor_of, descriptor_if}

abbrev pub main_name : Name
main_name = codes "main"

-- ---- its parameters

abbrev pub is_string_word : BuiltinType → Bool
is_string_word Int = false
is_string_word String = true
is_string_word Boolean = false
is_string_word Byte = false
is_string_word Any = false
is_string_word AnyData = false
is_string_word Never = false
is_string_word ReadOnly = false

-- the descriptor is the word `string`
abbrev pub is_string : Descriptor → Bool
is_string (builtin b) = is_string_word b
is_string (value v) = false
is_string (named name) = false
is_string (optional of) = false
is_string (union s t) = false
is_string (intersection s t) = false
is_string (array member at) = false
is_string (repeated member n at) = false
is_string (tuple members rest at) = false
is_string (map_of member at) = false
is_string (closed_record fields rest at) = false
is_string (open_record fields at) = false
is_string any_error = false
is_string (error_with detail at) = false
is_string (any_function isolated) = false
is_string (function_from isolated params rest result at) = false
is_string (future_of result at) = false

abbrev pub no_params : List Param → Bool
no_params [] = true
no_params (p ∷ ps) = false

abbrev pub takes_words : Option Param → Bool
takes_words None = true
takes_words (Some p) = is_string (descriptor_of p.ty.value)

-- ---- its result

abbrev pub is_never_word : BuiltinType → Bool
is_never_word Int = false
is_never_word String = false
is_never_word Boolean = false
is_never_word Byte = false
is_never_word Any = false
is_never_word AnyData = false
is_never_word Never = true
is_never_word ReadOnly = false

abbrev pub is_nil_literal : Literal → Bool
is_nil_literal (IntLiteral n at) = false
is_nil_literal (StrLiteral t at) = false
is_nil_literal (TrueLiteral at) = false
is_nil_literal (FalseLiteral at) = false
is_nil_literal (NilLiteral at) = true

abbrev pub is_nil_value : ConstValue → Bool
is_nil_value (LiteralValue l) = is_nil_literal l
is_nil_value (NegativeValue n at) = false

-- Whatever its names stand for, the type has a shape that is neither an error nor nil: one of a word's, of a literal's, an empty list
-- or an empty mapping.
abbrev pub gives_more : Descriptor → Bool
gives_more (builtin b) = not (is_never_word b)
gives_more (value v) = not (is_nil_value v)
gives_more (named name) = false
gives_more (optional of) = gives_more of
gives_more (union s t) = gives_more s || gives_more t
gives_more (intersection s t) = false
gives_more (array member at) = true
gives_more (repeated member n at) = false
gives_more (tuple members rest at) = false
gives_more (map_of member at) = true
gives_more (closed_record fields rest at) = false
gives_more (open_record fields at) = false
gives_more any_error = false
gives_more (error_with detail at) = false
gives_more (any_function isolated) = false
gives_more (function_from isolated params rest result at) = false
gives_more (future_of result at) = false

abbrev pub gives_more_if : MaybeDescriptor → Bool
gives_more_if absent = false
gives_more_if (present d) = gives_more d

-- ---- all of it

-- A function that may be `main`, as far as that is seen where it is written: it is public, has no parameter or `string...` alone, and
-- its result may be an error or nil alone.
abbrev pub may_be_main : FunctionDef → Bool
may_be_main f = f.public && no_params f.params.params.items && takes_words f.params.rest && not (gives_more_if (descriptor_if f.result))
