-- The lines of the table of actions.
use Rattle.std.proofs.Common.{List}
use Rattle.type_model.specs.declared.answers.TypeLimit.{TypeLimit}
use Rattle.type_model.specs.declared.atoms.AtomDef.{AtomDef}
use Rattle.type_model.specs.Calls.{Asked}
use Rattle.check_laws.specs.Laws.{EffectsAreKept}
use Rattle.calm_needs.specs.Calm.{AllNeedsAreCalm}
use Rattle.typed_calls.specs.Errors.{AllErrorsAreTyped}
use Rattle.typed_calls.specs.WholeWaits.{AllWholeWaitsAreTyped}
use Rattle.typed_exprs.specs.Actions.{AllActionsAreTyped}
use Rattle.typed_exprs.proofs.Messages.{behind, flushes, receives, sends, waiting}
use Rattle.typed_exprs.proofs.WaitLines.{all, any}

pub all-actions-are-typed : (passes : List AtomDef → Asked → TypeLimit → Type 0) → AllNeedsAreCalm passes → EffectsAreKept passes → AllErrorsAreTyped passes → AllWholeWaitsAreTyped passes
    → AllActionsAreTyped passes
all-actions-are-typed passes calm effects all-errors all-waits names env truth boolean =
    record {
      sends = sends passes names env (calm names);
      waiting = waiting passes names env (calm names);
      receives = receives passes names env (calm names);
      flushes = flushes passes names env (calm names);
      any = any passes names env (calm names) effects all-errors all-waits;
      all = all passes names env (calm names) effects all-errors all-waits;
      behind = λ op a needs at leaves claim. behind passes names env (calm names) a needs leaves claim truth boolean op at;
    }
