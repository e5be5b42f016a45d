-- The place of an expression: that of its first token. A form with tokens of its own has it beside it; any other begins as its part does.
use Rattle.bal_base.specs.declared.place.Place.{Place}
use Rattle.bal_tree.specs.declared.name.Literal.{Literal}
use Rattle.bal_tree.specs.declared.name.Literal.TheVariants as literal
use Rattle.bal_tree.specs.declared.expr.Call.{Call}
use Rattle.bal_tree.specs.declared.expr.Call.TheOpen as layer
use Rattle.bal_tree.specs.declared.expr.Expr.{Expr}
use Rattle.bal_tree.specs.declared.expr.Key.{Key}
use Rattle.bal_tree.specs.declared.expr.Postfix.{Postfix}
use Rattle.bal_tree.specs.declared.expr.Primary.{Primary}
use Rattle.bal_tree.specs.ExprLayers.{CallOf, ExprOf, KeyOf, PostfixOf, PrimaryOf, DetailOf, MemberOf, ExprSteps, of_call, of_expr, of_key, of_postfix, of_primary}

abbrev pub place_of_literal : Literal → Place
place_of_literal (literal.Int value at) = at
place_of_literal (literal.Str text at) = at
place_of_literal (literal.True at) = at
place_of_literal (literal.False at) = at
place_of_literal (literal.Nil at) = at

abbrev pub expr_step : ExprOf Place → Place
expr_step (layer.Postfix e) = e
expr_step (layer.Prefix op operand at) = at
expr_step (layer.Cast type operand at) = at
expr_step (layer.Binary left op right at) = at
expr_step (layer.TypeTest operand type at) = at
expr_step (layer.Conditional condition middle last at) = at
expr_step (layer.Trap operand at) = at
expr_step (layer.«Expr::Function» isolated params result value at) = at

abbrev pub postfix_step : PostfixOf Place → Place
postfix_step (layer.Primary e) = e
postfix_step (layer.Call e) = e
postfix_step (layer.Field base field at) = at
postfix_step (layer.OptionalField base field at) = at
postfix_step (layer.Index base index at) = at

abbrev pub call_step : CallOf Place → Place
call_step (layer.«Call::Function» callee args at) = at
call_step (layer.Method receiver method args at) = at

abbrev pub primary_step : PrimaryOf Place → Place
primary_step (layer.Literal l) = place_of_literal l
primary_step (layer.Name n) = n.at
primary_step (layer.Parens inner at) = at
primary_step (layer.List items at) = at
primary_step (layer.Mapping members at) = at
primary_step (layer.Error message cause details at) = at

abbrev pub key_step : KeyOf Place → Place
key_step (layer.Word w) = w.at
key_step (layer.Str text at) = at
key_step (layer.Computed value at) = at

abbrev member_step : MemberOf Place → Place
member_step m = m.at

abbrev detail_step : DetailOf Place → Place
detail_step d = d.at

abbrev pub placing : ExprSteps Place
placing =
    record {
      call = call_step;
      expr = expr_step;
      key = key_step;
      postfix = postfix_step;
      primary = primary_step;
      detail = detail_step;
      member = member_step;
    }

abbrev pub place_of_expr : Expr → Place
place_of_expr = of_expr placing

abbrev pub place_of_postfix : Postfix → Place
place_of_postfix = of_postfix placing

abbrev pub place_of_call : Call → Place
place_of_call = of_call placing

abbrev pub place_of_primary : Primary → Place
place_of_primary = of_primary placing

abbrev pub place_of_key : Key → Place
place_of_key = of_key placing
