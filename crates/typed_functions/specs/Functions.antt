-- The line of the table of expressions for anonymous functions.
use Rattle.std.specs.Prelude.{Bool, List}
use Rattle.bal_base.specs.declared.place.Place.{Place}
use Rattle.bal_tree.specs.declared.params.Params.{Params}
use Rattle.bal_tree.specs.declared.types.TypeTree.{TypeTree}
use Rattle.descriptors.specs.declared.names.Names.{Names}
use Rattle.type_model.specs.declared.answers.TypeLimit.{TypeLimit}
use Rattle.type_model.specs.declared.atoms.AtomDef.{AtomDef}
use Rattle.type_model.specs.Calls.{Asked}
use Rattle.expr_needs.specs.ExprTable.{Reading, anonymous_needs}
use Rattle.typed_exprs.specs.Lines.{Claim, Knows}

-- `function (T a, R... b) returns U => v`
abbrev pub FunctionIsTyped : (List AtomDef → Asked → TypeLimit → Type 0) → Names → List AtomDef → Type 0
FunctionIsTyped passes names env =
    (isolated : Bool) (ps : Params) (result : TypeTree) (v : Reading) (at : Place) → Knows passes names env v
    → Claim passes names env (λ e. anonymous_needs isolated ps result v at)

abbrev pub AllFunctionsAreTyped : (List AtomDef → Asked → TypeLimit → Type 0) → Type 0
AllFunctionsAreTyped passes = (names : Names) (env : List AtomDef) → FunctionIsTyped passes names env
