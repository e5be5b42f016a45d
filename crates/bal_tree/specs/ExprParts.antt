-- The parts of expressions, from left to right.
use Rattle.std.specs.Prelude.{List, [], ◌∷◌, ◌++◌}
use Rattle.bal_tree.specs.declared.expr.Call.TheOpen as layer
use Rattle.bal_tree.specs.Parts.{Part, outside, inside, between, each_inside, part_if}
use Rattle.bal_tree.specs.ExprLayers.{CallOf, ExprOf, KeyOf, PostfixOf, PrimaryOf, DetailOf, MemberOf}

module _ {A : Type 0} where
  abbrev pub expr_parts : ExprOf A → List (Part A)
  expr_parts (layer.Postfix e) = outside e ∷ []
  expr_parts (layer.Prefix op operand at) = outside operand.value ∷ []
  expr_parts (layer.Cast t operand at) = outside operand.value ∷ []
  expr_parts (layer.Binary left op right at) = outside left.value ∷ outside right.value ∷ []
  expr_parts (layer.TypeTest operand t at) = outside operand.value ∷ []
  expr_parts (layer.Conditional condition middle last at) =
      outside condition.value ∷ between middle.value ∷ outside last.value ∷ []
  expr_parts (layer.Trap operand at) = outside operand.value ∷ []
  expr_parts (layer.«Expr::Function» isolated params result value at) = outside value.value ∷ []

  abbrev pub postfix_parts : PostfixOf A → List (Part A)
  postfix_parts (layer.Primary e) = outside e ∷ []
  postfix_parts (layer.Call e) = outside e ∷ []
  postfix_parts (layer.Field base field at) = outside base.value ∷ []
  postfix_parts (layer.OptionalField base field at) = outside base.value ∷ []
  postfix_parts (layer.Index base index at) = outside base.value ∷ inside index.value ∷ []

  abbrev pub call_parts : CallOf A → List (Part A)
  call_parts (layer.«Call::Function» callee args at) = outside callee.value ∷ each_inside args.items
  call_parts (layer.Method receiver method args at) = outside receiver.value ∷ each_inside args.items

  abbrev pub primary_parts : PrimaryOf A → List (Part A)
  primary_parts (layer.Literal l) = []
  primary_parts (layer.Name n) = []
  primary_parts (layer.Parens inner at) = inside inner.value ∷ []
  primary_parts (layer.List items at) = each_inside items.items
  primary_parts (layer.Mapping members at) = each_inside members.items
  primary_parts (layer.Error message cause details at) =
      inside message.value ∷ part_if inside cause ++ each_inside details.items

  abbrev pub key_parts : KeyOf A → List (Part A)
  key_parts (layer.Word w) = []
  key_parts (layer.Str text at) = []
  key_parts (layer.Computed value at) = inside value.value ∷ []

  abbrev pub member_parts : MemberOf A → List (Part A)
  member_parts m = outside m.key ∷ outside m.value.value ∷ []

  abbrev pub detail_parts : DetailOf A → List (Part A)
  detail_parts d = outside d.value.value ∷ []
