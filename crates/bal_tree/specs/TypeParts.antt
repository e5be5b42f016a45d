-- The parts of type descriptors, from left to right.
use Rattle.std.specs.Prelude.{List, [], ◌∷◌, ◌++◌}
use Rattle.bal_tree.specs.declared.types.IntersectionType.TheOpen as layer
use Rattle.bal_tree.specs.Parts.{Part, outside, inside, each_inside, part_if}
use Rattle.bal_tree.specs.TypeLayers.{IntersectionTypeOf, PostfixTypeOf, PrimaryTypeOf, TypeTreeOf, FieldTreeOf, ParamTypeOf, ParamTypesOf}

module _ {A : Type 0} where
  abbrev pub type_parts : TypeTreeOf A → List (Part A)
  type_parts (layer.Intersection t) = outside t ∷ []
  type_parts (layer.Union left right at) = outside left.value ∷ outside right.value ∷ []

  abbrev pub intersection_parts : IntersectionTypeOf A → List (Part A)
  intersection_parts (layer.Postfix t) = outside t ∷ []
  intersection_parts (layer.Both left right at) = outside left.value ∷ outside right.value ∷ []

  abbrev pub postfix_parts : PostfixTypeOf A → List (Part A)
  postfix_parts (layer.Primary t) = outside t ∷ []
  postfix_parts (layer.Optional of at) = outside of.value ∷ []
  postfix_parts (layer.Array member at) = outside member.value ∷ []
  postfix_parts (layer.FixedArray member n at) = outside member.value ∷ []

  abbrev pub primary_parts : PrimaryTypeOf A → List (Part A)
  primary_parts (layer.Builtin b at) = []
  primary_parts (layer.Literal l) = []
  primary_parts (layer.Negative n at) = []
  primary_parts (layer.Parens inner at) = inside inner.value ∷ []
  primary_parts (layer.Name n) = []
  primary_parts (layer.Map member at) = outside member.value ∷ []
  primary_parts (layer.Future result at) = outside result.value ∷ []
  primary_parts (layer.Error detail at) = part_if outside detail
  primary_parts (layer.Tuple members rest at) = each_inside members.items ++ part_if inside rest
  primary_parts (layer.ClosedRecord fields rest at) = each_inside fields.items ++ part_if inside rest
  primary_parts (layer.OpenRecord fields at) = each_inside fields.items
  primary_parts (layer.AnyFunction isolated at) = []
  primary_parts (layer.Function isolated params result at) = inside params ∷ part_if outside result

  abbrev pub field_parts : FieldTreeOf A → List (Part A)
  field_parts f = outside f.ty.value ∷ []

  abbrev pub param_type_parts : ParamTypeOf A → List (Part A)
  param_type_parts p = outside p.ty.value ∷ []

  abbrev pub param_types_parts : ParamTypesOf A → List (Part A)
  param_types_parts p = each_inside p.params.items ++ part_if inside p.rest
