-- The names without a prefix that an expression uses as values or calls, with their places, in the order of the text, each as often as it stands there:
-- also those in anonymous functions, among them the names of their own parameters, which no variable around them has.
use Rattle.std.specs.Prelude.{Option, Some, None}
use Rattle.bal_tree.specs.declared.name.Prefix.{Prefix}
use Rattle.bal_tree.specs.declared.name.QualifiedName.{QualifiedName}
use Rattle.bal_tree.specs.declared.name.Word.{Word}
use Rattle.bal_tree.specs.declared.expr.Detail.{Detail}
use Rattle.bal_tree.specs.declared.expr.Member.{Member}
use Rattle.bal_tree.specs.declared.expr.Call.{Call}
use Rattle.bal_tree.specs.declared.expr.Call.TheOpen as layer
use Rattle.bal_tree.specs.declared.expr.Expr.{Expr}
use Rattle.bal_tree.specs.declared.expr.Key.{Key}
use Rattle.bal_tree.specs.declared.expr.Postfix.{Postfix}
use Rattle.bal_tree.specs.declared.expr.Primary.{Primary}
use Rattle.bal_tree.specs.ExprLayers.{CallOf, ExprOf, KeyOf, PostfixOf, PrimaryOf, DetailOf, MemberOf, ExprSteps, of_call, of_expr, of_key, of_postfix, of_primary}
use Rattle.bal_tree.specs.ExprLayers.{of_detail, of_member}
use Rattle.typed_tree.specs.Listed.{Listed, nothing, one, ◌&◌, joined, if_boxed}

-- a name behind a prefix is that of no variable of a body
abbrev pub unprefixed : Option Prefix → Word → Listed Word
unprefixed None w = one w
unprefixed (Some prefix) w = nothing

abbrev pub local_name : QualifiedName → Listed Word
local_name q = unprefixed q.prefix q.word

abbrev pub as_it_is : Listed Word → Listed Word
as_it_is names = names

abbrev pub expr_step : ExprOf (Listed Word) → Listed Word
expr_step (layer.Postfix e) = e
expr_step (layer.Prefix op operand at) = operand.value
expr_step (layer.Cast type operand at) = operand.value
expr_step (layer.Binary left op right at) = left.value & right.value
expr_step (layer.TypeTest operand type at) = operand.value
expr_step (layer.Conditional condition middle last at) = condition.value & middle.value & last.value
expr_step (layer.Trap operand at) = operand.value
expr_step (layer.«Expr::Function» isolated params result value at) = value.value

abbrev pub postfix_step : PostfixOf (Listed Word) → Listed Word
postfix_step (layer.Primary e) = e
postfix_step (layer.Call e) = e
postfix_step (layer.Field base field at) = base.value
postfix_step (layer.OptionalField base field at) = base.value
postfix_step (layer.Index base index at) = base.value & index.value

abbrev pub call_step : CallOf (Listed Word) → Listed Word
call_step (layer.«Call::Function» callee args at) = callee.value & joined args.items
call_step (layer.Method receiver method args at) = receiver.value & joined args.items

abbrev pub primary_step : PrimaryOf (Listed Word) → Listed Word
primary_step (layer.Literal l) = nothing
primary_step (layer.Name n) = local_name n
primary_step (layer.Parens inner at) = inner.value
primary_step (layer.List items at) = joined items.items
primary_step (layer.Mapping members at) = joined members.items
primary_step (layer.Error message cause details at) = message.value & if_boxed as_it_is cause & joined details.items

-- a key is no name that is used, unless it is computed
abbrev pub key_step : KeyOf (Listed Word) → Listed Word
key_step (layer.Word w) = nothing
key_step (layer.Str text at) = nothing
key_step (layer.Computed value at) = value.value

abbrev pub member_step : MemberOf (Listed Word) → Listed Word
member_step m = m.key & m.value.value

abbrev pub detail_step : DetailOf (Listed Word) → Listed Word
detail_step d = d.value.value

abbrev pub using_names : ExprSteps (Listed Word)
using_names =
    record {
      call = call_step;
      expr = expr_step;
      key = key_step;
      postfix = postfix_step;
      primary = primary_step;
      detail = detail_step;
      member = member_step;
    }

abbrev pub used_in_expr : Expr → Listed Word
used_in_expr = of_expr using_names

abbrev pub used_in_postfix : Postfix → Listed Word
used_in_postfix = of_postfix using_names

abbrev pub used_in_call : Call → Listed Word
used_in_call = of_call using_names

abbrev pub used_in_primary : Primary → Listed Word
used_in_primary = of_primary using_names

abbrev pub used_in_key : Key → Listed Word
used_in_key = of_key using_names

abbrev pub used_in_member : Member → Listed Word
used_in_member = of_member using_names

abbrev pub used_in_detail : Detail → Listed Word
used_in_detail = of_detail using_names
