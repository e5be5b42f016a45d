-- Layers of type descriptors: a tree with something in place of each part, and what a step for each kind of tree makes of a whole one.
use Rattle.bal_tree.specs.declared.types.IntersectionType.{IntersectionType, IntersectionType-F, fold-IntersectionType}
use Rattle.bal_tree.specs.declared.types.PostfixType.{PostfixType, PostfixType-F, fold-PostfixType}
use Rattle.bal_tree.specs.declared.types.PrimaryType.{PrimaryType, PrimaryType-F, fold-PrimaryType}
use Rattle.bal_tree.specs.declared.types.TypeTree.{TypeTree, TypeTree-F, fold-TypeTree}
use Rattle.bal_tree.specs.declared.types.FieldTree.{FieldTree, FieldTree-F, fold-FieldTree}
use Rattle.bal_tree.specs.declared.types.ParamType.{ParamType, ParamType-F, fold-ParamType}
use Rattle.bal_tree.specs.declared.types.ParamTypes.{ParamTypes, ParamTypes-F, fold-ParamTypes}

module _ (A : Type 0) where
  abbrev pub IntersectionTypeOf : Type 0
  IntersectionTypeOf = IntersectionType-F A A A A A A A

  abbrev pub PostfixTypeOf : Type 0
  PostfixTypeOf = PostfixType-F A A A A A A A

  abbrev pub PrimaryTypeOf : Type 0
  PrimaryTypeOf = PrimaryType-F A A A A A A A

  abbrev pub TypeTreeOf : Type 0
  TypeTreeOf = TypeTree-F A A A A A A A

  abbrev pub FieldTreeOf : Type 0
  FieldTreeOf = FieldTree-F A A A A A A A

  abbrev pub ParamTypeOf : Type 0
  ParamTypeOf = ParamType-F A A A A A A A

  abbrev pub ParamTypesOf : Type 0
  ParamTypesOf = ParamTypes-F A A A A A A A

  -- what is made of each kind of tree, from what was made of its parts
  pub record TypeSteps : Type 0 where
    pub intersection_type : IntersectionTypeOf → A
    pub postfix_type : PostfixTypeOf → A
    pub primary_type : PrimaryTypeOf → A
    pub type_tree : TypeTreeOf → A
    pub field_tree : FieldTreeOf → A
    pub param_type : ParamTypeOf → A
    pub param_types : ParamTypesOf → A

module _ {A : Type 0} (s : TypeSteps A) where
  abbrev pub of_intersection_type : IntersectionType → A
  of_intersection_type = fold-IntersectionType A A A A A A A s.intersection_type s.postfix_type s.primary_type s.type_tree s.field_tree s.param_type s.param_types

  abbrev pub of_postfix_type : PostfixType → A
  of_postfix_type = fold-PostfixType A A A A A A A s.intersection_type s.postfix_type s.primary_type s.type_tree s.field_tree s.param_type s.param_types

  abbrev pub of_primary_type : PrimaryType → A
  of_primary_type = fold-PrimaryType A A A A A A A s.intersection_type s.postfix_type s.primary_type s.type_tree s.field_tree s.param_type s.param_types

  abbrev pub of_type_tree : TypeTree → A
  of_type_tree = fold-TypeTree A A A A A A A s.intersection_type s.postfix_type s.primary_type s.type_tree s.field_tree s.param_type s.param_types

  abbrev pub of_field_tree : FieldTree → A
  of_field_tree = fold-FieldTree A A A A A A A s.intersection_type s.postfix_type s.primary_type s.type_tree s.field_tree s.param_type s.param_types

  abbrev pub of_param_type : ParamType → A
  of_param_type = fold-ParamType A A A A A A A s.intersection_type s.postfix_type s.primary_type s.type_tree s.field_tree s.param_type s.param_types

  abbrev pub of_param_types : ParamTypes → A
  of_param_types = fold-ParamTypes A A A A A A A s.intersection_type s.postfix_type s.primary_type s.type_tree s.field_tree s.param_type s.param_types
