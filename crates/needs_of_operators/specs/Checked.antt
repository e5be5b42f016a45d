-- What `check` asks, and what becomes of the last part.
use Rattle.std.specs.Prelude.{◌≡◌, ◌++◌, ℕ, List, [], ◌∷◌, Option, Some, length}
use Rattle.bal_base.specs.declared.place.Place.{Place}
use Rattle.checks.specs.Checks.{◌▷◌}
use Rattle.checks.specs.Questions.{below}
use Rattle.operations.specs.Kinds.{IsError}
use Rattle.type_model.specs.declared.answers.TypeLimit.{TypeLimit}
use Rattle.type_model.specs.declared.atoms.AtomDef.{AtomDef}
use Rattle.type_model.specs.Calls.{Asked}
use Rattle.typed_tree.specs.declared.expr.TypedExpr.{TypedExpr}
use Rattle.typed_tree.specs.SharedTypes.{Shared, sem_of}
use Rattle.check_words.specs.State.{AreLast, all_but}
use Rattle.check_words.specs.Words.{PartOf, Step, asking, sem, some_over}
use Rattle.check_work.specs.declared.work.Unit.{Unit as UnitHeld}
use Rattle.check_work.specs.Views.{unit_of}

-- the errors that a part may be are below a type
abbrev pub errors_fit : (passes : List AtomDef → Asked → TypeLimit → Type 0) → TypedExpr → Shared → Place → Step
errors_fit passes e t at = some_over (PartOf (sem e) IsError) ▷ λ errors. asking (below passes errors.sem (sem_of t) (Some at))

-- the last part became another one, which is so made of it
pub record Became (IsMade : TypedExpr → TypedExpr → Type 0) (old new : List TypedExpr) : Type 0 where
  pub part : TypedExpr
  pub e : TypedExpr
  pub last : AreLast old 1 (part ∷ [])
  pub is_made : IsMade part e
  pub after : new ≡ all_but 1 old ++ e ∷ []

-- the unit has a slot more, of this type, which has this number
pub record IsSlotMore (ty : Shared) (old new : Option UnitHeld) (slot : ℕ) : Type 0 where
  pub before : UnitHeld
  pub after : UnitHeld
  pub was : old ≡ Some before
  pub is : new ≡ Some after
  pub unit : unit_of after ≡ record (unit_of before) { slots = before.slots.items ++ ty ∷ [] }
  pub number : slot ≡ length before.slots.items
