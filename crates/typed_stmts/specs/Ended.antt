-- Statements that end a way, and those that evaluate something, as typed statements.
use Rattle.std.specs.Prelude.{Bool, List, Some, [], true, ◌++◌, ◌∷◌, ◌≡◌}
use Rattle.bal_base.specs.declared.place.Place.{Place}
use Rattle.check_words.specs.State.{IsLast, State}
use Rattle.descriptors.specs.declared.names.Names.{Names}
use Rattle.expr_needs.specs.Needs.{Breaks, Continues, Performs, Returns, ReturnsNil, WantsResult, Need}
use Rattle.expr_needs.specs.declared.kind.Kind.TheVariants as kind
use Rattle.operations.specs.Rows.{Surroundings}
use Rattle.tree_promises.specs.Made.{sem}
use Rattle.tree_promises.specs.Types.{IsTypedExpr}
use Rattle.type_model.specs.Calls.{Asked}
use Rattle.type_model.specs.Inclusion.{Sub}
use Rattle.type_model.specs.declared.answers.TypeLimit.{TypeLimit}
use Rattle.type_model.specs.declared.atoms.AtomDef.{AtomDef}
use Rattle.typed_needs.specs.Asked.{IsOfIt}
use Rattle.typed_needs.specs.Pieces.{IsBefore, IsMet}
use Rattle.typed_needs.specs.Placing.{IsPlaced}
use Rattle.typed_stmts.specs.Adding.{AddsTyped}
use Rattle.typed_tree.specs.SharedTypes.{Shared, sem_of}
use Rattle.typed_tree.specs.declared.expr.TypedExpr.{TypedExpr}
use Rattle.typed_tree.specs.declared.stmt.PerformForm.TheVariants as perform
use Rattle.typed_tree.specs.declared.stmt.PerformForm.{PerformForm}

module _ (passes : List AtomDef → Asked → TypeLimit → Type 0) (names : Names) (env : List AtomDef) (place : Surroundings) where
  -- the result of the unit is wanted
  abbrev pub ResultIsWanted : Type 0
  ResultIsWanted =
      (old new : State) → IsMet passes names env WantsResult old new → IsPlaced place old
      → (w : Shared) × (new ≡ record old { wants = old.wants ++ Some w ∷ [] }) × (sem_of w ≡ place.result)

  module _ (inside : Bool) where
    -- a value is ignored, or it is nil
    abbrev pub EvaluationIsTyped : PerformForm → Type 0
    EvaluationIsTyped form =
        (at : Place) (old new : State) (e : TypedExpr) → IsMet passes names env (Performs form 1 at) old new → IsLast old.found e → IsTypedExpr env place e
        → AddsTyped env place inside [] old new

    -- what panics is an error
    abbrev pub PanicIsTyped : Type 0
    PanicIsTyped =
        (at : Place) (old new : State) (e : TypedExpr) → IsMet passes names env (Performs perform.Panic 1 at) old new → IsLast old.found e → IsTypedExpr env place e
        → IsOfIt passes names env kind.AnyError e → AddsTyped env place inside [] old new

    -- what is returned is below the result
    abbrev pub ReturnIsTyped : Type 0
    ReturnIsTyped =
        (at : Place) (old new : State) (e : TypedExpr) → IsMet passes names env (Returns at) old new → IsLast old.found e → IsTypedExpr env place e
        → Sub env (sem e) place.result → AddsTyped env place inside [] old new

    abbrev pub NilReturnIsTyped : Type 0
    NilReturnIsTyped =
        (at : Place) (old new : State) → IsBefore env old → IsMet passes names env (ReturnsNil at) old new → IsPlaced place old → AddsTyped env place inside [] old new

    pub record EndsAreTyped : Type 0 where
      pub wanted : ResultIsWanted
      pub ignored : EvaluationIsTyped perform.Ignore
      pub evaluated : EvaluationIsTyped perform.Evaluate
      pub panics : PanicIsTyped
      pub returned : ReturnIsTyped
      pub nil_returned : NilReturnIsTyped

  -- in a loop
  abbrev pub JumpIsTyped : (Place → Need) → Type 0
  JumpIsTyped jump = (at : Place) (old new : State) → IsMet passes names env (jump at) old new → AddsTyped env place true [] old new

  pub record JumpsAreTyped : Type 0 where
    pub breaks : JumpIsTyped Breaks
    pub continues : JumpIsTyped Continues

abbrev pub AllEndsAreTyped : (List AtomDef → Asked → TypeLimit → Type 0) → Type 0
AllEndsAreTyped passes =
    (names : Names) (env : List AtomDef) (place : Surroundings) → ((inside : Bool) → EndsAreTyped passes names env place inside) × JumpsAreTyped passes names env place
