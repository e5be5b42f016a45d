-- What futures give, in waits.
use Rattle.std.specs.Prelude.{◌≡◌, ℕ, List, Option, Some, Result, Ok}
use Rattle.bal_base.specs.declared.fault.Fault.{Fault}
use Rattle.bal_base.specs.declared.place.Place.{Place}
use Rattle.checks.specs.Checks.{Check, ◌▷◌}
use Rattle.operations.specs.Kinds.{IsError}
use Rattle.type_model.specs.declared.answers.Keys.TheVariants.{Results}
use Rattle.type_model.specs.declared.answers.TypeLimit.{TypeLimit}
use Rattle.type_model.specs.declared.atoms.AtomDef.{AtomDef}
use Rattle.type_model.specs.Calls.{Asked}
use Rattle.typed_tree.specs.declared.expr.TypedExpr.{TypedExpr}
use Rattle.typed_tree.specs.SharedTypes.{Shared}
use Rattle.expr_needs.specs.declared.kind.Kind.TheVariants as kind
use Rattle.check_words.specs.Actions.{result_of}
use Rattle.check_words.specs.Members.{member_at}
use Rattle.check_words.specs.Sharing.{SameShared}
use Rattle.check_words.specs.State.{State}
use Rattle.check_words.specs.Words.{EitherOf, Step, is_of, last_part, sem, some_over, wants, wants_some}

-- what a worker gives, by this handle
abbrev pub IsResultOf : Option (Result Shared Fault) → Shared → Type 0
IsResultOf known u = (t : Shared) × (known ≡ Some (Ok t)) × SameShared t u

-- what a worker gives is wanted
abbrev pub wants_result_of : ℕ → Step
wants_result_of w = result_of w ▷ λ t. wants (Some t)

module _ (passes : List AtomDef → Asked → TypeLimit → Type 0) where
  -- a type of what the future gives, or an error
  abbrev pub gives_given : TypedExpr → Place → Check State Shared
  gives_given e at = member_at passes (sem e) Results at ▷ λ m. some_over (λ env (t : Shared). EitherOf m IsError env t.value)

  -- what the last part gives is wanted, and that it is a future
  abbrev pub wants_part : Place → Step
  wants_part at = last_part ▷ λ e. member_at passes (sem e) Results at ▷ λ m. wants_some (EitherOf m IsError)

  abbrev pub wants_given : Place → Step
  wants_given at = is_of passes kind.AnyFuture at ▷ λ v. wants_part at
