-- What is made of typed parts where one of two values is chosen, where a value is tested, cast or checked for errors.
use Rattle.std.specs.Prelude.{List, [], ◌∷◌, Option}
use Rattle.bal_base.specs.declared.place.Place.{Place}
use Rattle.bal_tree.specs.declared.name.QualifiedName.{QualifiedName}
use Rattle.descriptors.specs.declared.names.Names.{Names}
use Rattle.type_model.specs.declared.answers.TypeLimit.{TypeLimit}
use Rattle.type_model.specs.declared.atoms.AtomDef.{AtomDef}
use Rattle.type_model.specs.declared.basic.SemType.{SemType}
use Rattle.type_model.specs.Calls.{Asked}
use Rattle.type_model.specs.Inclusion.{HasExactly}
use Rattle.operations.specs.Kinds.{IsBoolean}
use Rattle.operations.specs.Rows.{Surroundings}
use Rattle.typed_tree.specs.declared.expr.TypedExpr.{TypedExpr}
use Rattle.expr_needs.specs.Needs.{Need, Casts, Checks, ChecksPanicking, Chooses, FillsNil, Tests}
use Rattle.check_words.specs.State.{AreLast, IsLast, State}
use Rattle.tree_promises.specs.Made.{Booleans, sem}
use Rattle.tree_promises.specs.Types.{IsTypedExpr}
use Rattle.typed_needs.specs.Pieces.{IsBefore, IsMet, MakesTyped}
use Rattle.typed_needs.specs.Placing.{IsPlaced}

module _ (passes : List AtomDef → Asked → TypeLimit → Type 0) (names : Names) (env : List AtomDef) (place : Surroundings) where
  -- `c ? a : b`, and `a ?: b`, which keeps the value of a in a slot of its own
  abbrev pub ChoiceIsTyped : Type 0
  ChoiceIsTyped =
      (at : Place) (old new : State) (c a b : TypedExpr) → IsBefore env old → IsBefore env new → IsMet passes names env (Chooses at) old new
      → AreLast old.found 3 (c ∷ a ∷ b ∷ []) → IsTypedExpr env place c → IsTypedExpr env place a → IsTypedExpr env place b → Booleans env (sem c)
      → MakesTyped passes names env place 3 old new

  -- `truth`: a type of the booleans
  abbrev pub FilledIsTyped : Type 0
  FilledIsTyped =
      (at : Place) (old new : State) (a b : TypedExpr) (truth : SemType) → IsBefore env old → IsBefore env new → IsMet passes names env (FillsNil at) old new
      → AreLast old.found 2 (a ∷ b ∷ []) → IsTypedExpr env place a → IsTypedExpr env place b → IsPlaced place new → HasExactly env truth IsBoolean
      → MakesTyped passes names env place 2 old new

  -- `<T>a`, and `a is T`
  abbrev pub CastIsTyped : Type 0
  CastIsTyped =
      (at : Place) (old new : State) (e : TypedExpr) → IsBefore env old → IsBefore env new → IsMet passes names env (Casts at) old new
      → IsLast old.found e → IsTypedExpr env place e → MakesTyped passes names env place 1 old new

  abbrev pub TestIsTyped : Type 0
  TestIsTyped =
      (name : Option QualifiedName) (at : Place) (old new : State) (e : TypedExpr) → IsBefore env new → IsMet passes names env (Tests name at) old new
      → IsLast old.found e → IsTypedExpr env place e → MakesTyped passes names env place 1 old new

  -- `check a`, whose errors are results of the unit, and `checkpanic a`
  abbrev pub CheckIsTyped : (Place → Need) → Type 0
  CheckIsTyped need =
      (at : Place) (old new : State) (e : TypedExpr) (truth : SemType) → IsBefore env old → IsMet passes names env (need at) old new
      → IsLast old.found e → IsTypedExpr env place e → IsPlaced place new → HasExactly env truth IsBoolean → MakesTyped passes names env place 1 old new

  pub record ChoicesAreTyped : Type 0 where
    pub choices : ChoiceIsTyped
    pub filled : FilledIsTyped
    pub casts : CastIsTyped
    pub tests : TestIsTyped
    pub checks : CheckIsTyped Checks
    pub panicking : CheckIsTyped ChecksPanicking

abbrev pub AllChoicesAreTyped : (List AtomDef → Asked → TypeLimit → Type 0) → Type 0
AllChoicesAreTyped passes = (names : Names) (env : List AtomDef) (place : Surroundings) → ChoicesAreTyped passes names env place
