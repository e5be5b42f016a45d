-- A fold over a type that is put together from its parts.
use Rattle.std.proofs.Common.{◌≡◌}
use Rattle.bal_tree.specs.declared.types.IntersectionType.{IntersectionType, IntersectionType-F, roll-IntersectionType, map-IntersectionType, fold-roll-IntersectionType}
use Rattle.bal_tree.specs.declared.types.PostfixType.{PostfixType, PostfixType-F, roll-PostfixType, map-PostfixType, fold-roll-PostfixType}
use Rattle.bal_tree.specs.declared.types.PrimaryType.{PrimaryType, PrimaryType-F, roll-PrimaryType, map-PrimaryType, fold-roll-PrimaryType}
use Rattle.bal_tree.specs.declared.types.TypeTree.{TypeTree, TypeTree-F, roll-TypeTree, map-TypeTree, fold-roll-TypeTree}
use Rattle.bal_tree.specs.declared.types.FieldTree.{FieldTree, FieldTree-F, roll-FieldTree, map-FieldTree, fold-roll-FieldTree}
use Rattle.bal_tree.specs.declared.types.ParamType.{ParamType, ParamType-F, roll-ParamType, map-ParamType, fold-roll-ParamType}
use Rattle.bal_tree.specs.declared.types.ParamTypes.{ParamTypes, ParamTypes-F, roll-ParamTypes, map-ParamTypes, fold-roll-ParamTypes}
use Rattle.bal_tree.specs.TypeLayers.{IntersectionTypeOf, PostfixTypeOf, PrimaryTypeOf, TypeTreeOf, FieldTreeOf, ParamTypeOf, ParamTypesOf, TypeSteps, of_intersection_type, of_postfix_type, of_primary_type, of_type_tree, of_field_tree, of_param_type, of_param_types}

module _ {A : Type 0} (s : TypeSteps A) where
  abbrev pub parts_of_intersection_type : IntersectionType-F IntersectionType PostfixType PrimaryType TypeTree FieldTree ParamType ParamTypes → IntersectionTypeOf A
  parts_of_intersection_type = map-IntersectionType IntersectionType PostfixType PrimaryType TypeTree FieldTree ParamType ParamTypes A A A A A A A (of_intersection_type s) (of_postfix_type s) (of_primary_type s) (of_type_tree s) (of_field_tree s) (of_param_type s) (of_param_types s)

  pub rolled-intersection_type : (x : IntersectionType-F IntersectionType PostfixType PrimaryType TypeTree FieldTree ParamType ParamTypes) → of_intersection_type s (roll-IntersectionType x) ≡ s.intersection_type (parts_of_intersection_type x)
  rolled-intersection_type x = fold-roll-IntersectionType A A A A A A A s.intersection_type s.postfix_type s.primary_type s.type_tree s.field_tree s.param_type s.param_types x

  abbrev pub parts_of_postfix_type : PostfixType-F IntersectionType PostfixType PrimaryType TypeTree FieldTree ParamType ParamTypes → PostfixTypeOf A
  parts_of_postfix_type = map-PostfixType IntersectionType PostfixType PrimaryType TypeTree FieldTree ParamType ParamTypes A A A A A A A (of_intersection_type s) (of_postfix_type s) (of_primary_type s) (of_type_tree s) (of_field_tree s) (of_param_type s) (of_param_types s)

  pub rolled-postfix_type : (x : PostfixType-F IntersectionType PostfixType PrimaryType TypeTree FieldTree ParamType ParamTypes) → of_postfix_type s (roll-PostfixType x) ≡ s.postfix_type (parts_of_postfix_type x)
  rolled-postfix_type x = fold-roll-PostfixType A A A A A A A s.intersection_type s.postfix_type s.primary_type s.type_tree s.field_tree s.param_type s.param_types x

  abbrev pub parts_of_primary_type : PrimaryType-F IntersectionType PostfixType PrimaryType TypeTree FieldTree ParamType ParamTypes → PrimaryTypeOf A
  parts_of_primary_type = map-PrimaryType IntersectionType PostfixType PrimaryType TypeTree FieldTree ParamType ParamTypes A A A A A A A (of_intersection_type s) (of_postfix_type s) (of_primary_type s) (of_type_tree s) (of_field_tree s) (of_param_type s) (of_param_types s)

  pub rolled-primary_type : (x : PrimaryType-F IntersectionType PostfixType PrimaryType TypeTree FieldTree ParamType ParamTypes) → of_primary_type s (roll-PrimaryType x) ≡ s.primary_type (parts_of_primary_type x)
  rolled-primary_type x = fold-roll-PrimaryType A A A A A A A s.intersection_type s.postfix_type s.primary_type s.type_tree s.field_tree s.param_type s.param_types x

  abbrev pub parts_of_type_tree : TypeTree-F IntersectionType PostfixType PrimaryType TypeTree FieldTree ParamType ParamTypes → TypeTreeOf A
  parts_of_type_tree = map-TypeTree IntersectionType PostfixType PrimaryType TypeTree FieldTree ParamType ParamTypes A A A A A A A (of_intersection_type s) (of_postfix_type s) (of_primary_type s) (of_type_tree s) (of_field_tree s) (of_param_type s) (of_param_types s)

  pub rolled-type_tree : (x : TypeTree-F IntersectionType PostfixType PrimaryType TypeTree FieldTree ParamType ParamTypes) → of_type_tree s (roll-TypeTree x) ≡ s.type_tree (parts_of_type_tree x)
  rolled-type_tree x = fold-roll-TypeTree A A A A A A A s.intersection_type s.postfix_type s.primary_type s.type_tree s.field_tree s.param_type s.param_types x

  abbrev pub parts_of_field_tree : FieldTree-F IntersectionType PostfixType PrimaryType TypeTree FieldTree ParamType ParamTypes → FieldTreeOf A
  parts_of_field_tree = map-FieldTree IntersectionType PostfixType PrimaryType TypeTree FieldTree ParamType ParamTypes A A A A A A A (of_intersection_type s) (of_postfix_type s) (of_primary_type s) (of_type_tree s) (of_field_tree s) (of_param_type s) (of_param_types s)

  pub rolled-field_tree : (x : FieldTree-F IntersectionType PostfixType PrimaryType TypeTree FieldTree ParamType ParamTypes) → of_field_tree s (roll-FieldTree x) ≡ s.field_tree (parts_of_field_tree x)
  rolled-field_tree x = fold-roll-FieldTree A A A A A A A s.intersection_type s.postfix_type s.primary_type s.type_tree s.field_tree s.param_type s.param_types x

  abbrev pub parts_of_param_type : ParamType-F IntersectionType PostfixType PrimaryType TypeTree FieldTree ParamType ParamTypes → ParamTypeOf A
  parts_of_param_type = map-ParamType IntersectionType PostfixType PrimaryType TypeTree FieldTree ParamType ParamTypes A A A A A A A (of_intersection_type s) (of_postfix_type s) (of_primary_type s) (of_type_tree s) (of_field_tree s) (of_param_type s) (of_param_types s)

  pub rolled-param_type : (x : ParamType-F IntersectionType PostfixType PrimaryType TypeTree FieldTree ParamType ParamTypes) → of_param_type s (roll-ParamType x) ≡ s.param_type (parts_of_param_type x)
  rolled-param_type x = fold-roll-ParamType A A A A A A A s.intersection_type s.postfix_type s.primary_type s.type_tree s.field_tree s.param_type s.param_types x

  abbrev pub parts_of_param_types : ParamTypes-F IntersectionType PostfixType PrimaryType TypeTree FieldTree ParamType ParamTypes → ParamTypesOf A
  parts_of_param_types = map-ParamTypes IntersectionType PostfixType PrimaryType TypeTree FieldTree ParamType ParamTypes A A A A A A A (of_intersection_type s) (of_postfix_type s) (of_primary_type s) (of_type_tree s) (of_field_tree s) (of_param_type s) (of_param_types s)

  pub rolled-param_types : (x : ParamTypes-F IntersectionType PostfixType PrimaryType TypeTree FieldTree ParamType ParamTypes) → of_param_types s (roll-ParamTypes x) ≡ s.param_types (parts_of_param_types x)
  rolled-param_types x = fold-roll-ParamTypes A A A A A A A s.intersection_type s.postfix_type s.primary_type s.type_tree s.field_tree s.param_type s.param_types x
