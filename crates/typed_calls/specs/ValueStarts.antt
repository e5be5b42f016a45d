-- What starts of function values are, as typed parts.
use Rattle.std.specs.Prelude.{◌≡◌, suc, List, ◌∷◌, length}
use Rattle.bal_base.specs.declared.place.Place.{Place}
use Rattle.descriptors.specs.declared.names.Names.{Names}
use Rattle.operations.specs.Rows.{Surroundings}
use Rattle.type_model.specs.declared.answers.TypeLimit.{TypeLimit}
use Rattle.type_model.specs.declared.atoms.AtomDef.{AtomDef}
use Rattle.type_model.specs.Calls.{Asked}
use Rattle.type_model.specs.Defined.{IsEnv}
use Rattle.typed_tree.specs.declared.expr.TypedExpr.{TypedExpr}
use Rattle.expr_needs.specs.declared.kind.Kind.TheVariants as kind
use Rattle.expr_needs.specs.Needs.{Starts}
use Rattle.check_words.specs.State.{AreLast, CallAtWork, IsLast, OfValue, State}
use Rattle.tree_promises.specs.Made.{AreTypedExprs}
use Rattle.typed_needs.specs.Asked.{IsOfIt}
use Rattle.typed_needs.specs.Items.{AreFirst}
use Rattle.typed_needs.specs.Pieces.{IsBefore, IsMet, MakesTyped}

-- a function, and behind it its arguments, all of which are in its domain: a future of what it gives to them
abbrev pub ValueStartIsTyped : (List AtomDef → Asked → TypeLimit → Type 0) → Names → List AtomDef → Surroundings → Type 0
ValueStartIsTyped passes names env place =
    (here at : Place) (old new : State) (c : CallAtWork) (f : TypedExpr) (args : List TypedExpr) → IsEnv old.atoms → IsBefore env old → IsBefore env new → AreFirst env new.atoms
    → IsMet passes names env (Starts here at) old new → IsLast old.calls c → c.callee ≡ OfValue → length args ≡ c.args → AreLast old.found (suc c.args) (f ∷ args)
    → AreTypedExprs env place (f ∷ args) → IsOfIt passes names env kind.AnyFunction f → MakesTyped passes names env place (suc c.args) old new

abbrev pub ValueStartsAreTyped : (List AtomDef → Asked → TypeLimit → Type 0) → Type 0
ValueStartsAreTyped passes = (names : Names) (env : List AtomDef) (place : Surroundings) → ValueStartIsTyped passes names env place
