-- The name that an expression is, where it is one and nothing else: not in parentheses, and with no suffix.
use Rattle.std.specs.Prelude.{Option, Some, None}
use Rattle.bal_tree.specs.declared.name.QualifiedName.{QualifiedName}
use Rattle.bal_tree.specs.declared.expr.Call.TheOpen as layer
use Rattle.bal_tree.specs.declared.expr.Expr.{Expr}
use Rattle.bal_tree.specs.declared.expr.Postfix.{Postfix}
use Rattle.bal_tree.specs.declared.expr.Primary.{Primary}
use Rattle.bal_tree.specs.ExprLayers.{CallOf, ExprOf, KeyOf, PostfixOf, PrimaryOf, DetailOf, MemberOf, ExprSteps, of_expr, of_postfix, of_primary}

abbrev pub expr_step : ExprOf (Option QualifiedName) → Option QualifiedName
expr_step (layer.Postfix e) = e
expr_step (layer.Prefix op operand at) = None
expr_step (layer.Cast type operand at) = None
expr_step (layer.Binary left op right at) = None
expr_step (layer.TypeTest operand type at) = None
expr_step (layer.Conditional condition middle last at) = None
expr_step (layer.Trap operand at) = None
expr_step (layer.«Expr::Function» isolated params result value at) = None

abbrev pub postfix_step : PostfixOf (Option QualifiedName) → Option QualifiedName
postfix_step (layer.Primary e) = e
postfix_step (layer.Call e) = None
postfix_step (layer.Field base field at) = None
postfix_step (layer.OptionalField base field at) = None
postfix_step (layer.Index base index at) = None

abbrev call_step : CallOf (Option QualifiedName) → Option QualifiedName
call_step e = None

abbrev pub primary_step : PrimaryOf (Option QualifiedName) → Option QualifiedName
primary_step (layer.Literal l) = None
primary_step (layer.Name n) = Some n
primary_step (layer.Parens inner at) = None
primary_step (layer.List items at) = None
primary_step (layer.Mapping members at) = None
primary_step (layer.Error message cause details at) = None

abbrev key_step : KeyOf (Option QualifiedName) → Option QualifiedName
key_step k = None

abbrev member_step : MemberOf (Option QualifiedName) → Option QualifiedName
member_step m = None

abbrev detail_step : DetailOf (Option QualifiedName) → Option QualifiedName
detail_step d = None

abbrev pub naming : ExprSteps (Option QualifiedName)
naming =
    record {
      call = call_step;
      expr = expr_step;
      key = key_step;
      postfix = postfix_step;
      primary = primary_step;
      detail = detail_step;
      member = member_step;
    }

abbrev pub name_of_expr : Expr → Option QualifiedName
name_of_expr = of_expr naming

abbrev pub name_of_postfix : Postfix → Option QualifiedName
name_of_postfix = of_postfix naming

abbrev pub name_of_primary : Primary → Option QualifiedName
name_of_primary = of_primary naming
