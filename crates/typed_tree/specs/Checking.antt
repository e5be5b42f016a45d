-- Which expressions of the syntax may end the body that they stand in: those with a `check`, but for one in an anonymous function.
use Rattle.std.specs.Prelude.{Bool, true, false, ◌&&◌, Option, None, Some}
use Rattle.std.specs.List.{list_all}
use Rattle.std.specs.Global.{Box}
use Rattle.bal_tree.specs.declared.expr.PrefixOp.{PrefixOp}
use Rattle.bal_tree.specs.declared.expr.PrefixOp.TheVariants.{Negate, Not, Check, CheckPanic}
use Rattle.bal_tree.specs.declared.expr.Call.{Call}
use Rattle.bal_tree.specs.declared.expr.Expr.{Expr}
use Rattle.bal_tree.specs.declared.expr.Key.{Key}
use Rattle.bal_tree.specs.declared.expr.Postfix.{Postfix}
use Rattle.bal_tree.specs.declared.expr.Primary.{Primary}
use Rattle.bal_tree.specs.declared.expr.Detail.{Detail}
use Rattle.bal_tree.specs.declared.expr.Member.{Member}
use Rattle.bal_tree.specs.declared.expr.Call.TheOpen as layer
use Rattle.bal_tree.specs.ExprLayers.{CallOf, ExprOf, KeyOf, PostfixOf, PrimaryOf, DetailOf, MemberOf, ExprSteps, of_call, of_expr, of_key, of_postfix, of_primary, of_detail, of_member}

-- the operator never ends the body
abbrev pub op_keeps_on : PrefixOp → Bool
op_keeps_on Negate = true
op_keeps_on Not = true
op_keeps_on Check = false
op_keeps_on CheckPanic = true

abbrev pub this : Bool → Bool
this b = b

abbrev pub cause_keeps_on : Option (Box Bool) → Bool
cause_keeps_on None = true
cause_keeps_on (Some b) = b.value

abbrev pub expr_step : ExprOf Bool → Bool
expr_step (layer.Postfix e) = e
expr_step (layer.Prefix op operand at) = op_keeps_on op && operand.value
expr_step (layer.Cast t operand at) = operand.value
expr_step (layer.Binary left op right at) = left.value && right.value
expr_step (layer.TypeTest operand t at) = operand.value
expr_step (layer.Conditional condition middle last at) = condition.value && middle.value && last.value
expr_step (layer.Trap operand at) = operand.value
expr_step (layer.«Expr::Function» isolated params result value at) = true

abbrev pub postfix_step : PostfixOf Bool → Bool
postfix_step (layer.Primary e) = e
postfix_step (layer.Call e) = e
postfix_step (layer.Field base field at) = base.value
postfix_step (layer.OptionalField base field at) = base.value
postfix_step (layer.Index base index at) = base.value && index.value

abbrev pub call_step : CallOf Bool → Bool
call_step (layer.«Call::Function» callee args at) = callee.value && list_all this args.items
call_step (layer.Method receiver method args at) = receiver.value && list_all this args.items

abbrev pub primary_step : PrimaryOf Bool → Bool
primary_step (layer.Literal l) = true
primary_step (layer.Name n) = true
primary_step (layer.Parens inner at) = inner.value
primary_step (layer.List items at) = list_all this items.items
primary_step (layer.Mapping members at) = list_all this members.items
primary_step (layer.Error message cause details at) = message.value && cause_keeps_on cause && list_all this details.items

abbrev pub key_step : KeyOf Bool → Bool
key_step (layer.Word w) = true
key_step (layer.Str text at) = true
key_step (layer.Computed value at) = value.value

abbrev pub member_step : MemberOf Bool → Bool
member_step m = m.key && m.value.value

abbrev pub detail_step : DetailOf Bool → Bool
detail_step d = d.value.value

abbrev pub keeping_on : ExprSteps Bool
keeping_on =
    record {
      call = call_step;
      expr = expr_step;
      key = key_step;
      postfix = postfix_step;
      primary = primary_step;
      detail = detail_step;
      member = member_step;
    }

-- no `check` stands in it
abbrev pub expr_keeps_on : Expr → Bool
expr_keeps_on = of_expr keeping_on

abbrev pub postfix_keeps_on : Postfix → Bool
postfix_keeps_on = of_postfix keeping_on

abbrev pub call_keeps_on : Call → Bool
call_keeps_on = of_call keeping_on

abbrev pub primary_keeps_on : Primary → Bool
primary_keeps_on = of_primary keeping_on

abbrev pub key_keeps_on : Key → Bool
key_keeps_on = of_key keeping_on

abbrev pub member_keeps_on : Member → Bool
member_keeps_on = of_member keeping_on

abbrev pub detail_keeps_on : Detail → Bool
detail_keeps_on = of_detail keeping_on
