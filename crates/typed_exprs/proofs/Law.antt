-- The lines of the tables.
use Rattle.std.proofs.Common.{List}
use Rattle.bal_base.specs.declared.place.Place.{Place}
use Rattle.bal_tree.specs.declared.expr.BinaryOp.{BinaryOp}
use Rattle.bal_tree.specs.declared.expr.BinaryOp.TheVariants.{Multiply, Divide, Remainder, Subtract, Add, Less, LessEqual, Greater, GreaterEqual, Equal, NotEqual, Same, NotSame, And, Or, Elvis}
use Rattle.descriptors.specs.declared.names.Names.{Names}
use Rattle.operations.specs.Kinds.{IsBoolean}
use Rattle.type_model.specs.declared.answers.TypeLimit.{TypeLimit}
use Rattle.type_model.specs.declared.atoms.AtomDef.{AtomDef}
use Rattle.type_model.specs.declared.basic.SemType.{SemType}
use Rattle.type_model.specs.Calls.{Asked}
use Rattle.type_model.specs.Inclusion.{HasExactly}
use Rattle.typed_tree.specs.declared.form.Operator.TheVariants as operator
use Rattle.expr_needs.specs.declared.kind.Kind.TheVariants as kind
use Rattle.expr_needs.specs.ExprTable.{Reading, binary_needs}
use Rattle.expr_needs.specs.Needs.{Adds, Compares}
use Rattle.expr_needs.specs.Operators.{family_of}
use Rattle.calm_needs.specs.Calm.{AllNeedsAreCalm, NeedsAreCalm}
use Rattle.typed_exprs.specs.Lines.{TheseLinesAreTyped, Claim, EntersNoWay, Knows, LinesAreTyped}
use Rattle.typed_exprs.proofs.Operators.{formed, order-made, sorted, sum-made}
use Rattle.typed_exprs.proofs.Plain.{filled, identical}
use Rattle.typed_exprs.proofs.Single.{enclosed, field, literal, name, optional, trapped}

module _ (passes : List AtomDef → Asked → TypeLimit → Type 0) (names : Names) (env : List AtomDef) (calm : NeedsAreCalm passes names) (truth : SemType)
    (boolean : HasExactly env truth IsBoolean) where
  abbrev Line : BinaryOp → Type 0
  Line o = (a b : Reading) (at : Place) → Knows passes names env a → Knows passes names env b → Claim passes names env (λ e. binary_needs (family_of o) a b at e)

  binary : (o : BinaryOp) → EntersNoWay o → Line o
  binary Multiply is a b at ka kb = formed passes names env calm truth boolean operator.Multiply kind.Integer kind.Integer (λ x y hx hy. (hx, hy)) (λ x g. g) a b at ka kb
  binary Divide is a b at ka kb = formed passes names env calm truth boolean operator.Divide kind.Integer kind.Integer (λ x y hx hy. (hx, hy)) (λ x g. g) a b at ka kb
  binary Remainder is a b at ka kb = formed passes names env calm truth boolean operator.Remainder kind.Integer kind.Integer (λ x y hx hy. (hx, hy)) (λ x g. g) a b at ka kb
  binary Subtract is a b at ka kb = formed passes names env calm truth boolean operator.Subtract kind.Integer kind.Integer (λ x y hx hy. (hx, hy)) (λ x g. g) a b at ka kb
  binary Add is a b at ka kb = sorted passes names env calm truth boolean (Adds at) tt (sum-made passes names env calm truth boolean at) a b ka kb
  binary Less is a b at ka kb = sorted passes names env calm truth boolean (Compares operator.Less at) tt (order-made passes names env calm truth boolean operator.Less (λ x y f. f) (λ x g. g) at) a b ka kb
  binary LessEqual is a b at ka kb = sorted passes names env calm truth boolean (Compares operator.LessEqual at) tt (order-made passes names env calm truth boolean operator.LessEqual (λ x y f. f) (λ x g. g) at) a b ka kb
  binary Greater is a b at ka kb = sorted passes names env calm truth boolean (Compares operator.Greater at) tt (order-made passes names env calm truth boolean operator.Greater (λ x y f. f) (λ x g. g) at) a b ka kb
  binary GreaterEqual is a b at ka kb = sorted passes names env calm truth boolean (Compares operator.GreaterEqual at) tt (order-made passes names env calm truth boolean operator.GreaterEqual (λ x y f. f) (λ x g. g) at) a b ka kb
  binary Equal is a b at ka kb = formed passes names env calm truth boolean operator.Equal kind.Anydata kind.Truth (λ x y hx hy. (hx, hy)) (λ x g. g) a b at ka kb
  binary NotEqual is a b at ka kb = formed passes names env calm truth boolean operator.NotEqual kind.Anydata kind.Truth (λ x y hx hy. (hx, hy)) (λ x g. g) a b at ka kb
  binary Same is a b at ka kb = identical passes names env calm truth boolean operator.Same (λ x y. tt) (λ x g. g) a b at ka kb
  binary NotSame is a b at ka kb = identical passes names env calm truth boolean operator.NotSame (λ x y. tt) (λ x g. g) a b at ka kb
  binary And is a b at ka kb = absurd is
  binary Or is a b at ka kb = absurd is
  binary Elvis is a b at ka kb = filled passes names env calm truth boolean a b at ka kb

  lines-are-typed : LinesAreTyped passes names env truth
  lines-are-typed =
      record {
        binary = binary;
        literal = literal passes names env calm;
        name = name passes names env calm;
        enclosed = enclosed passes names env calm;
        trapped = trapped passes names env calm;
        field = field passes names env calm;
        optional = optional passes names env calm;
      }

pub all-lines-are-typed : (passes : List AtomDef → Asked → TypeLimit → Type 0) → AllNeedsAreCalm passes → TheseLinesAreTyped passes
all-lines-are-typed passes calm names env truth boolean = lines-are-typed passes names env (calm names) truth boolean
