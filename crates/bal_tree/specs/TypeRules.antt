-- How type descriptors end, and which are well formed.
use Rattle.std.specs.Prelude.{Bool, true, false, ◌&&◌, ◌||◌, not, ℤ, int_le, pos, Option, None, Some, List}
use Rattle.std.specs.List.{list_all}
use Rattle.std.specs.Global.{Box}
use Rattle.bal_tree.specs.declared.name.Prefix.{Prefix}
use Rattle.bal_tree.specs.declared.name.Prefix.TheVariants.{Word as WordPrefix, Int as IntPrefix}
use Rattle.bal_tree.specs.declared.types.BuiltinType.{BuiltinType}
use Rattle.bal_tree.specs.declared.types.BuiltinType.TheVariants.{Int, String, Boolean, Byte, Any, AnyData, Never, ReadOnly}
use Rattle.bal_tree.specs.declared.types.IntersectionType.{IntersectionType}
use Rattle.bal_tree.specs.declared.types.IntersectionType.TheOpen as layer
use Rattle.bal_tree.specs.declared.types.PostfixType.{PostfixType}
use Rattle.bal_tree.specs.declared.types.PrimaryType.{PrimaryType}
use Rattle.bal_tree.specs.declared.types.TypeTree.{TypeTree}
use Rattle.bal_tree.specs.declared.types.FieldTree.{FieldTree}
use Rattle.bal_tree.specs.declared.types.ParamType.{ParamType}
use Rattle.bal_tree.specs.declared.types.ParamTypes.{ParamTypes}
use Rattle.bal_tree.specs.declared.params.Param.{Param}
use Rattle.bal_tree.specs.declared.params.Params.{Params}
use Rattle.bal_tree.specs.Parts.{Part, part_of, in_middle}
use Rattle.bal_tree.specs.TypeParts.{type_parts, intersection_parts, postfix_parts, primary_parts, field_parts, param_type_parts, param_types_parts}
use Rattle.bal_tree.specs.TypeLayers.{IntersectionTypeOf, PostfixTypeOf, PrimaryTypeOf, TypeTreeOf, TypeSteps, of_intersection_type, of_postfix_type, of_primary_type, of_type_tree, of_field_tree, of_param_type, of_param_types}

-- what a type's end says of what may stand behind it
pub record TypeEnd : Type 0 where
  -- the type ends in the result of a function type
  pub in_result : Bool
  -- its last token is the keyword `int`
  pub in_int : Bool

pub record TypeFacts : Type 0 where
  pub end : TypeEnd
  -- it is well formed, in the middle of a conditional expression or not
  pub is_formed : Bool → Bool

-- ---- how types end

-- in neither way
abbrev pub closed : TypeEnd
closed = record { in_result = false; in_int = false }

abbrev pub is_int : BuiltinType → Bool
is_int Int = true
is_int String = false
is_int Boolean = false
is_int Byte = false
is_int Any = false
is_int AnyData = false
is_int Never = false
is_int ReadOnly = false

abbrev pub result_end : Option (Box TypeFacts) → TypeEnd
result_end None = closed
result_end (Some t) = record { in_result = true; in_int = t.value.end.in_int }

abbrev pub end_of_type : TypeTreeOf TypeFacts → TypeEnd
end_of_type (layer.Intersection t) = t.end
end_of_type (layer.Union left right at) = right.value.end

abbrev pub end_of_intersection : IntersectionTypeOf TypeFacts → TypeEnd
end_of_intersection (layer.Postfix t) = t.end
end_of_intersection (layer.Both left right at) = right.value.end

abbrev pub end_of_postfix : PostfixTypeOf TypeFacts → TypeEnd
end_of_postfix (layer.Primary t) = t.end
end_of_postfix (layer.Optional of at) = closed
end_of_postfix (layer.Array member at) = closed
end_of_postfix (layer.FixedArray member n at) = closed

abbrev pub end_of_primary : PrimaryTypeOf TypeFacts → TypeEnd
end_of_primary (layer.Builtin b at) = record { in_result = false; in_int = is_int b }
end_of_primary (layer.Literal l) = closed
end_of_primary (layer.Negative n at) = closed
end_of_primary (layer.Parens inner at) = closed
end_of_primary (layer.Name n) = closed
end_of_primary (layer.Map member at) = closed
end_of_primary (layer.Future result at) = closed
end_of_primary (layer.Error detail at) = closed
end_of_primary (layer.Tuple members rest at) = closed
end_of_primary (layer.ClosedRecord fields rest at) = closed
end_of_primary (layer.OpenRecord fields at) = closed
end_of_primary (layer.AnyFunction isolated at) = closed
end_of_primary (layer.Function isolated params result at) = result_end result

-- ---- the rules

-- The result of a function type reaches as far as it can. So behind one stands no `|`, `&`, `?` or `[`.
abbrev pub may_go_on : TypeFacts → Bool
may_go_on t = not t.end.in_result

-- An array has at most 1,024 members by its type.
unfoldable pub is_length : ℤ → Bool
is_length n = int_le n (pos 1024)

abbrev pub is_plain : Option Prefix → Bool
is_plain None = true
is_plain (Some (WordPrefix w)) = false
is_plain (Some (IntPrefix at)) = true

-- In the middle of a conditional expression a `:` outside brackets ends the middle. So no name there has a prefix, but for
-- `int`.
abbrev pub name_fits : Bool → Option Prefix → Bool
name_fits middle prefix = not middle || is_plain prefix

abbrev pub type_rule : TypeTreeOf TypeFacts → Bool
type_rule (layer.Intersection t) = true
type_rule (layer.Union left right at) = may_go_on left.value

abbrev pub intersection_rule : IntersectionTypeOf TypeFacts → Bool
intersection_rule (layer.Postfix t) = true
intersection_rule (layer.Both left right at) = may_go_on left.value

abbrev pub postfix_rule : PostfixTypeOf TypeFacts → Bool
postfix_rule (layer.Primary t) = true
postfix_rule (layer.Optional of at) = may_go_on of.value
postfix_rule (layer.Array member at) = may_go_on member.value
postfix_rule (layer.FixedArray member n at) = may_go_on member.value && is_length n

abbrev pub primary_rule : PrimaryTypeOf TypeFacts → Bool → Bool
primary_rule (layer.Builtin b at) middle = true
primary_rule (layer.Literal l) middle = true
primary_rule (layer.Negative n at) middle = true
primary_rule (layer.Parens inner at) middle = true
primary_rule (layer.Name n) middle = name_fits middle n.prefix
primary_rule (layer.Map member at) middle = true
primary_rule (layer.Future result at) middle = true
primary_rule (layer.Error detail at) middle = true
primary_rule (layer.Tuple members rest at) middle = true
primary_rule (layer.ClosedRecord fields rest at) middle = true
primary_rule (layer.OpenRecord fields at) middle = true
primary_rule (layer.AnyFunction isolated at) middle = true
primary_rule (layer.Function isolated params result at) middle = true

-- ---- what is well formed: what keeps its rule and whose parts are well formed

abbrev pub part_is_formed : Bool → Part TypeFacts → Bool
part_is_formed middle part = (part_of part).is_formed (in_middle middle part)

abbrev pub are_formed : Bool → List (Part TypeFacts) → Bool
are_formed middle parts = list_all (part_is_formed middle) parts

abbrev pub facts : TypeSteps TypeFacts
facts = record {
  type_tree = λ t. record { end = end_of_type t; is_formed = λ middle. type_rule t && are_formed middle (type_parts t) };
  intersection_type = λ t. record { end = end_of_intersection t; is_formed = λ middle. intersection_rule t && are_formed middle (intersection_parts t) };
  postfix_type = λ t. record { end = end_of_postfix t; is_formed = λ middle. postfix_rule t && are_formed middle (postfix_parts t) };
  primary_type = λ t. record { end = end_of_primary t; is_formed = λ middle. primary_rule t middle && are_formed middle (primary_parts t) };
  field_tree = λ f. record { end = closed; is_formed = λ middle. are_formed middle (field_parts f) };
  param_type = λ p. record { end = closed; is_formed = λ middle. are_formed middle (param_type_parts p) };
  param_types = λ p. record { end = closed; is_formed = λ middle. are_formed middle (param_types_parts p) };
}

abbrev pub type_end : TypeTree → TypeEnd
type_end t = (of_type_tree facts t).end

abbrev pub intersection_end : IntersectionType → TypeEnd
intersection_end t = (of_intersection_type facts t).end

abbrev pub postfix_type_end : PostfixType → TypeEnd
postfix_type_end t = (of_postfix_type facts t).end

abbrev pub primary_type_end : PrimaryType → TypeEnd
primary_type_end t = (of_primary_type facts t).end

abbrev pub type_is_formed : TypeTree → Bool → Bool
type_is_formed t = (of_type_tree facts t).is_formed

abbrev pub intersection_is_formed : IntersectionType → Bool → Bool
intersection_is_formed t = (of_intersection_type facts t).is_formed

abbrev pub postfix_type_is_formed : PostfixType → Bool → Bool
postfix_type_is_formed t = (of_postfix_type facts t).is_formed

abbrev pub primary_type_is_formed : PrimaryType → Bool → Bool
primary_type_is_formed t = (of_primary_type facts t).is_formed

abbrev pub field_is_formed : FieldTree → Bool → Bool
field_is_formed f = (of_field_tree facts f).is_formed

abbrev pub param_type_is_formed : ParamType → Bool → Bool
param_type_is_formed p = (of_param_type facts p).is_formed

abbrev pub param_types_are_formed : ParamTypes → Bool → Bool
param_types_are_formed p = (of_param_types facts p).is_formed

-- ---- the parameters of a function

abbrev pub param_is_formed : Param → Bool
param_is_formed p = type_is_formed p.ty.value false

abbrev pub last_is_formed : Option Param → Bool
last_is_formed None = true
last_is_formed (Some p) = param_is_formed p

abbrev pub params_are_formed : Params → Bool
params_are_formed p = list_all param_is_formed p.params.items && last_is_formed p.rest
