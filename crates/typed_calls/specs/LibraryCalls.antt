-- What calls of the library are, as typed parts, argument by argument, and what arguments of any call are below.
use Rattle.std.specs.Prelude.{◌≡◌, ◌++◌, ◌+◌, ℕ, suc, List, [], ◌∷◌, length, Option, Some, None, ⊤}
use Rattle.bal_base.specs.declared.place.Place.{Place}
use Rattle.descriptors.specs.declared.names.Names.{Names}
use Rattle.operations.specs.declared.library.LibraryCall.{LibraryCall}
use Rattle.operations.specs.declared.library.LibraryCall.TheVariants.{Push}
use Rattle.operations.specs.Rows.{IsWithin, Surroundings}
use Rattle.type_model.specs.declared.answers.Keys.TheVariants.{AnyIndex}
use Rattle.type_model.specs.declared.answers.TypeLimit.{TypeLimit}
use Rattle.type_model.specs.declared.atoms.AtomDef.{AtomDef}
use Rattle.type_model.specs.Calls.{Asked}
use Rattle.type_model.specs.Inclusion.{Sub}
use Rattle.type_model.specs.Parts.{StandsAt}
use Rattle.typed_tree.specs.declared.expr.TypedExpr.{TypedExpr}
use Rattle.typed_tree.specs.SharedTypes.{Shared, sem_of}
use Rattle.expr_needs.specs.Needs.{ExpectsArgument, IsArgument, MakesCall}
use Rattle.check_words.specs.Calls.{one_more}
use Rattle.check_words.specs.Library.{LibraryRow, Takes, argument_of}
use Rattle.check_words.specs.State.{AreLast, CallAtWork, IsLast, OfLibrary, OfValue, State, all_but, replaced}
use Rattle.tree_promises.specs.Made.{AreTypedExprs, sem}
use Rattle.typed_needs.specs.Items.{AreFirst}
use Rattle.typed_needs.specs.Pieces.{IsBefore, IsMet, MakesTyped}
use Rattle.typed_calls.specs.Callees.{HoldsCallee, KindFits}

module _ (env : List AtomDef) where
  -- below what is wanted, where something is
  abbrev pub BelowIf : Option Shared → TypedExpr → Type 0
  BelowIf None e = ⊤
  BelowIf (Some t) e = Sub env (sem e) (sem_of t)

  -- it may stand in the list that is the receiver
  abbrev pub PushedFits : Option Shared → TypedExpr → Type 0
  PushedFits None e = ⊥
  PushedFits (Some t) e = IsWithin env (StandsAt env (sem_of t) AnyIndex) (sem e)

  -- what is pushed may stand in the list, and every other argument is of the kind of its place
  abbrev pub FitsBy : LibraryCall → Option Shared → Takes → TypedExpr → Type 0
  FitsBy Push receiver takes e = PushedFits receiver e
  FitsBy call receiver takes e = KindFits env takes e

  abbrev pub LibraryArgumentFits : LibraryRow → Option Shared → ℕ → TypedExpr → Type 0
  LibraryArgumentFits r receiver k e = FitsBy r.call receiver (argument_of r k) e

  -- arguments from the one with this number on
  abbrev pub LibraryArgumentsFit : LibraryRow → Option Shared → ℕ → List TypedExpr → Type 0
  LibraryArgumentsFit r receiver k [] = ⊤
  LibraryArgumentsFit r receiver k (e ∷ es) = LibraryArgumentFits r receiver k e × LibraryArgumentsFit r receiver (suc k) es

module _ (passes : List AtomDef → Asked → TypeLimit → Type 0) (names : Names) (env : List AtomDef) (place : Surroundings) where
  -- what is below what is wanted of an argument fits there
  abbrev pub LibraryArgumentIsExpected : Type 0
  LibraryArgumentIsExpected =
      (r : LibraryRow) (receiver : Option Shared) (at : Place) (old new : State) (c : CallAtWork) → IsBefore env old → IsBefore env new
      → IsMet passes names env (ExpectsArgument at) old new → IsLast old.calls c → c.callee ≡ OfLibrary r receiver
      → (w : Option Shared) × (new ≡ record old { wants = old.wants ++ w ∷ [] }) × ((e : TypedExpr) → BelowIf env w e → LibraryArgumentFits env r receiver c.args e)

  -- of an argument of a function value nothing is wanted
  abbrev pub ValueArgumentIsExpected : Type 0
  ValueArgumentIsExpected =
      (at : Place) (old new : State) (c : CallAtWork) → IsMet passes names env (ExpectsArgument at) old new → IsLast old.calls c → c.callee ≡ OfValue
      → new ≡ record old { wants = old.wants ++ None ∷ [] }

  -- an argument, whatever is called
  abbrev pub ArgumentIsBelow : Type 0
  ArgumentIsBelow =
      (at : Place) (old new : State) (c : CallAtWork) (e : TypedExpr) (w : Option Shared) → IsBefore env old → IsMet passes names env (IsArgument at) old new
      → IsLast old.calls c → IsLast old.found e → IsLast old.wants w
      → (new ≡ record old { calls = replaced old.calls (one_more c); wants = all_but 1 old.wants }) × BelowIf env w e

  -- a receiver, if there is one, and behind it the arguments, all of which are there
  abbrev pub LibraryCallIsTyped : Type 0
  LibraryCallIsTyped =
      (r : LibraryRow) (receiver : Option Shared) (at : Place) (old new : State) (c : CallAtWork) (belong args : List TypedExpr) → IsBefore env old → IsBefore env new
      → AreFirst env new.atoms → IsMet passes names env (MakesCall at) old new → IsLast old.calls c → c.callee ≡ OfLibrary r receiver → length args ≡ c.args
      → HoldsCallee env place (length args) (OfLibrary r receiver) belong → AreLast old.found (length belong + c.args) (belong ++ args) → AreTypedExprs env place (belong ++ args)
      → LibraryArgumentsFit env r receiver 0 args → MakesTyped passes names env place (length belong + c.args) old new

  pub record LibraryCallsAreTyped : Type 0 where
    pub expected : LibraryArgumentIsExpected
    pub unwanted : ValueArgumentIsExpected
    pub below : ArgumentIsBelow
    pub called : LibraryCallIsTyped

abbrev pub AllLibraryCallsAreTyped : (List AtomDef → Asked → TypeLimit → Type 0) → Type 0
AllLibraryCallsAreTyped passes = (names : Names) (env : List AtomDef) (place : Surroundings) → LibraryCallsAreTyped passes names env place
