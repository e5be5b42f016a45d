-- What may be absent among the parts of an error.
use Rattle.std.specs.Prelude.{Bool, true, false, Option, None, Some}
use Rattle.std.specs.Global.{Box}
use Rattle.bal_tree.specs.declared.expr.Expr.{Expr}
use Rattle.bal_tree.specs.ExprRules.{expr_is_formed}

abbrev pub cause_is_formed : Option (Box Expr) → Bool
cause_is_formed None = true
cause_is_formed (Some e) = expr_is_formed e.value false
