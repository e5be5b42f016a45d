-- Lines of the table of expressions that enter ways: `a && b`, `a || b` and `c ? a : b`.
use Rattle.std.specs.Prelude.{Bool, List}
use Rattle.bal_base.specs.declared.place.Place.{Place}
use Rattle.descriptors.specs.declared.names.Names.{Names}
use Rattle.type_model.specs.declared.answers.TypeLimit.{TypeLimit}
use Rattle.type_model.specs.declared.atoms.AtomDef.{AtomDef}
use Rattle.type_model.specs.Calls.{Asked}
use Rattle.expr_needs.specs.declared.operators.Family.TheVariants.{Condition}
use Rattle.expr_needs.specs.ExprTable.{Reading, binary_needs, conditional_needs}
use Rattle.typed_exprs.specs.Lines.{Claim, Knows}

-- `holds`: whether the right operand is looked at where the left one holds, or where it doesn't
pub record ConditionsAreTyped (passes : List AtomDef → Asked → TypeLimit → Type 0) (names : Names) (env : List AtomDef) : Type 0 where
  pub both : (holds : Bool) (a b : Reading) (at : Place) → Knows passes names env a → Knows passes names env b
      → Claim passes names env (λ e. binary_needs (Condition holds) a b at e)
  pub conditional : (c a b : Reading) (at : Place) → Knows passes names env c → Knows passes names env a → Knows passes names env b
      → Claim passes names env (λ e. conditional_needs c a b at)

abbrev pub AllConditionsAreTyped : (List AtomDef → Asked → TypeLimit → Type 0) → Type 0
AllConditionsAreTyped passes = (names : Names) (env : List AtomDef) → ConditionsAreTyped passes names env
