-- Lines of the tables of expressions: where what is read of the operands comes to typed parts, what is read of the whole does.
use Rattle.std.specs.Prelude.{◌≡◌, List, All, length, ⊤}
use Rattle.bal_base.specs.declared.place.Place.{Place}
use Rattle.bal_tree.specs.declared.expr.BinaryOp.{BinaryOp}
use Rattle.bal_tree.specs.declared.expr.BinaryOp.TheVariants.{Multiply, Divide, Remainder, Subtract, Add, Less, LessEqual, Greater, GreaterEqual, Equal, NotEqual, Same, NotSame, And, Or, Elvis}
use Rattle.bal_tree.specs.declared.name.Literal.{Literal}
use Rattle.bal_tree.specs.declared.name.QualifiedName.{QualifiedName}
use Rattle.bal_tree.specs.declared.name.Word.{Word}
use Rattle.checks.specs.Checks.{Gives}
use Rattle.descriptors.specs.declared.names.Names.{Names}
use Rattle.needs.specs.Needs.{all_met}
use Rattle.operations.specs.Kinds.{IsBoolean}
use Rattle.operations.specs.Rows.{Surroundings}
use Rattle.type_model.specs.declared.answers.TypeLimit.{TypeLimit}
use Rattle.type_model.specs.declared.atoms.AtomDef.{AtomDef}
use Rattle.type_model.specs.declared.basic.SemType.{SemType}
use Rattle.type_model.specs.Calls.{Asked}
use Rattle.type_model.specs.Inclusion.{HasExactly}
use Rattle.typed_tree.specs.Listed.{Listed, one, ◌&◌}
use Rattle.expr_needs.specs.declared.expected.Expected.{Expected}
use Rattle.expr_needs.specs.declared.kind.Kind.TheVariants as kind
use Rattle.expr_needs.specs.ExprTable.{Reading, against, binary_needs, freely}
use Rattle.expr_needs.specs.Needs.{Need, Encloses, GivesLiteral, GivesNamed, ReadsField, ReadsOptional, Traps}
use Rattle.expr_needs.specs.Operators.{family_of}
use Rattle.check_words.specs.State.{State}
use Rattle.check_laws.specs.Laws.{IsOneMore, IsReady}
use Rattle.typed_needs.specs.Between.{IsKept, IsSoFar, IsUnitAt, stood, units_in}
use Rattle.typed_needs.specs.Going.{GoesOn}
use Rattle.typed_needs.specs.Placing.{AreNamed}
use Rattle.typed_needs.specs.TypedRuns.{ComesToTyped}

-- A state that goes on to another one with as many units, whose parts have the units that its own parts have: so what is known from the end is known before.
pub record Path (old new : State) : Type 0 where
  pub goes : GoesOn old new
  pub many : length new.units ≡ length old.units
  pub units : (place : Surroundings) → All (IsUnitAt place) (units_in new.found) → All (IsUnitAt place) (units_in old.found)

-- one part more, as the laws of positions and of runs have it
pub record Left (old new : State) : Type 0 where
  pub more : IsOneMore old new
  pub path : Path old new

-- all binary operators but those that enter a way
abbrev pub EntersNoWay : BinaryOp → Type 0
EntersNoWay Multiply = ⊤
EntersNoWay Divide = ⊤
EntersNoWay Remainder = ⊤
EntersNoWay Subtract = ⊤
EntersNoWay Add = ⊤
EntersNoWay Less = ⊤
EntersNoWay LessEqual = ⊤
EntersNoWay Greater = ⊤
EntersNoWay GreaterEqual = ⊤
EntersNoWay Equal = ⊤
EntersNoWay NotEqual = ⊤
EntersNoWay Same = ⊤
EntersNoWay NotSame = ⊤
EntersNoWay And = ⊥
EntersNoWay Or = ⊥
EntersNoWay Elvis = ⊤

module _ (passes : List AtomDef → Asked → TypeLimit → Type 0) (names : Names) (env : List AtomDef) where
  -- all needs are met, and each state stands
  abbrev pub Run : Listed Need → State → State → Type 0
  Run needs old new = all_met (stood passes names) needs old (Gives tt) new

  -- where a state is ready, and what is kept is so, and the end is the place's, they come to one typed part more
  abbrev pub Claim : (Expected → Listed Need) → Type 0
  Claim needs =
      (e : Expected) (place : Surroundings) (old new : State) → IsReady e old → Run (needs e) old new → IsKept place old → IsSoFar env place new → AreNamed env names place
      → ComesToTyped env place old new

  abbrev pub Leaves : (Expected → Listed Need) → Type 0
  Leaves needs = (e : Expected) (old new : State) → IsReady e old → Run (needs e) old new → Left old new

  -- what is known of a reading whose tree is smaller
  pub record Knows (a : Reading) : Type 0 where
    pub claim : Claim a.needs
    pub leaves : Leaves a.needs

  -- ---- the lines

  -- `truth`: a type of the booleans
  pub record LinesAreTyped (truth : SemType) : Type 0 where
    pub binary : (o : BinaryOp) → EntersNoWay o → (a b : Reading) (at : Place) → Knows a → Knows b → Claim (λ e. binary_needs (family_of o) a b at e)
    pub literal : (l : Literal) → Claim (λ e. one (GivesLiteral l))
    pub name : (q : QualifiedName) → Claim (λ e. one (GivesNamed q))
    pub enclosed : (a : Reading) (at : Place) → Knows a → Claim (λ e. a.needs e & one (Encloses at))
    pub trapped : (a : Reading) (at : Place) → Knows a → Claim (λ e. freely a & one (Traps at))
    pub field : (a : Reading) (w : Word) (at : Place) → Knows a → Claim (λ e. against kind.AnyMapping a & one (ReadsField w at))
    pub optional : (a : Reading) (w : Word) (at : Place) → Knows a → Claim (λ e. against kind.MappingOrNil a & one (ReadsOptional w at))

abbrev pub TheseLinesAreTyped : (List AtomDef → Asked → TypeLimit → Type 0) → Type 0
TheseLinesAreTyped passes = (names : Names) (env : List AtomDef) (truth : SemType) → HasExactly env truth IsBoolean → LinesAreTyped passes names env truth
