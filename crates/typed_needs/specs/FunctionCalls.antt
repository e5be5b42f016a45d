-- What calls of functions are, as typed parts, argument by argument.
use Rattle.std.specs.Prelude.{◌≡◌, ◌++◌, ℕ, suc, true, List, [], ◌∷◌, IsSomeAnd, Some, length, slice_get, ⊤}
use Rattle.bal_base.specs.declared.place.Place.{Place}
use Rattle.descriptors.specs.declared.names.Names.{Names}
use Rattle.descriptors.specs.declared.names.Signature.{Signature}
use Rattle.operations.specs.Rows.{Surroundings}
use Rattle.type_model.specs.declared.answers.TypeLimit.{TypeLimit}
use Rattle.type_model.specs.declared.atoms.AtomDef.{AtomDef}
use Rattle.type_model.specs.declared.basic.Ty.{Ty}
use Rattle.type_model.specs.Calls.{Asked}
use Rattle.type_model.specs.Inclusion.{Sub}
use Rattle.type_model.specs.SameType.{IsSameType}
use Rattle.typed_tree.specs.declared.expr.TypedExpr.{TypedExpr}
use Rattle.typed_tree.specs.SharedTypes.{Shared, sem_of}
use Rattle.expr_needs.specs.Needs.{Need, ExpectsArgument, IsArgument, MakesCall, Starts}
use Rattle.check_words.specs.Calls.{function_takes, one_more, parameter_of}
use Rattle.check_words.specs.State.{AreLast, CallAtWork, IsLast, OfFunction, State, all_but, replaced}
use Rattle.tree_promises.specs.Made.{AreTypedExprs, sem}
use Rattle.typed_needs.specs.Pieces.{IsBefore, IsMet, MakesTyped}
use Rattle.typed_needs.specs.Placing.{IsUnitOf}

module _ (env : List AtomDef) where
  -- below the type of its parameter, if there is one
  abbrev pub ArgumentFits : List Ty → TypedExpr → Type 0
  ArgumentFits [] e = ⊥
  ArgumentFits (t ∷ ts) e = Sub env (sem e) t.sem

  -- arguments from the parameter with this number on
  abbrev pub ArgumentsFit : Signature → ℕ → List TypedExpr → Type 0
  ArgumentsFit f k [] = ⊤
  ArgumentsFit f k (e ∷ es) = ArgumentFits (parameter_of f k) e × ArgumentsFit f (suc k) es

-- the same type as that of the parameter is wanted
abbrev pub WantsParameter : List Ty → Shared → Type 0
WantsParameter [] w = ⊥
WantsParameter (t ∷ ts) w = IsSameType t.sem (sem_of w)

module _ (passes : List AtomDef → Asked → TypeLimit → Type 0) (names : Names) (env : List AtomDef) (place : Surroundings) where
  abbrev pub ArgumentIsExpected : Type 0
  ArgumentIsExpected =
      (f : Signature) (at : Place) (old new : State) (c : CallAtWork) → IsMet passes names env (ExpectsArgument at) old new → IsLast old.calls c → c.callee ≡ OfFunction f
      → (w : Shared) × (new ≡ record old { wants = old.wants ++ Some w ∷ [] }) × WantsParameter (parameter_of f c.args) w

  abbrev pub ArgumentIsTaken : Type 0
  ArgumentIsTaken =
      (f : Signature) (at : Place) (old new : State) (c : CallAtWork) (e : TypedExpr) (w : Shared) → IsBefore env old → IsMet passes names env (IsArgument at) old new
      → IsLast old.calls c → IsLast old.found e → IsLast old.wants (Some w) → WantsParameter (parameter_of f c.args) w
      → (new ≡ record old { calls = replaced old.calls (one_more c); wants = all_but 1 old.wants }) × ArgumentFits env (parameter_of f c.args) e

  -- the call, or a start, takes the function's arguments, all of which are there
  abbrev pub FunctionIsTyped : Need → Type 0
  FunctionIsTyped need =
      (f : Signature) (old new : State) (c : CallAtWork) (args : List TypedExpr) → IsBefore env new → IsMet passes names env need old new
      → IsLast old.calls c → c.callee ≡ OfFunction f → length args ≡ c.args → function_takes f (length args) ≡ true → AreLast old.found c.args args
      → AreTypedExprs env place args → ArgumentsFit env f 0 args → IsSomeAnd (slice_get place.units f.unit) (IsUnitOf env f)
      → MakesTyped passes names env place c.args old new

  pub record FunctionCallsAreTyped : Type 0 where
    pub expected : ArgumentIsExpected
    pub taken : ArgumentIsTaken
    pub called : (at : Place) → FunctionIsTyped (MakesCall at)
    pub started : (here at : Place) → FunctionIsTyped (Starts here at)

abbrev pub AllFunctionCallsAreTyped : (List AtomDef → Asked → TypeLimit → Type 0) → Type 0
AllFunctionCallsAreTyped passes = (names : Names) (env : List AtomDef) (place : Surroundings) → FunctionCallsAreTyped passes names env place
