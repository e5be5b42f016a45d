-- What calls make, step by step.
use Rattle.std.specs.Prelude.{◌≡◌, ℕ, List, Option, None, Some}
use Rattle.bal_base.specs.declared.place.Place.{Place}
use Rattle.checks.specs.Checks.{◌▷◌}
use Rattle.checks.specs.Questions.{adds}
use Rattle.descriptors.specs.Described.{plain}
use Rattle.operations.specs.declared.library.LibraryCall.{LibraryCall}
use Rattle.type_model.specs.declared.answers.Keys.{Keys}
use Rattle.type_model.specs.declared.answers.Keys.TheVariants.{AnyIndex}
use Rattle.type_model.specs.declared.answers.TypeLimit.{TypeLimit}
use Rattle.type_model.specs.declared.atoms.AtomDef.{AtomDef}
use Rattle.type_model.specs.declared.atoms.AtomDef.TheVariants.{Future as FutureAtom}
use Rattle.type_model.specs.declared.basic.SemType.{SemType, Atom}
use Rattle.type_model.specs.declared.basic.Ty.{Ty}
use Rattle.type_model.specs.Calls.{Asked}
use Rattle.type_model.specs.SameType.{IsSameType}
use Rattle.typed_tree.specs.declared.form.Callee.TheVariants as callee
use Rattle.typed_tree.specs.declared.form.StrictForm.{StrictForm}
use Rattle.typed_tree.specs.declared.form.StrictForm.TheVariants as form
use Rattle.typed_tree.specs.SharedTypes.{Shared, sem_of}
use Rattle.check_words.specs.Calls.{IsFutureAtom, IsType, gives_by, lists_by}
use Rattle.check_words.specs.Members.{member_at}
use Rattle.check_words.specs.Words.{Step, asking, makes_strict}

-- so many parts become one of just this type
abbrev pub makes_so : ℕ → StrictForm → Ty → Place → Step
makes_so count form ty at = makes_strict count form (λ env t. t ≡ ty) at

-- a call of the library gives a value of just this type, or a new list of such values
abbrev pub gives_so : ℕ → LibraryCall → Ty → Place → Step
gives_so count call ty at = makes_so count (form.Library call None None) ty at

abbrev pub lists_so : ℕ → LibraryCall → Ty → Place → Step
lists_so count call ty at = lists_by count call (λ env t. t ≡ ty) at

-- how many parts a receiver is
abbrev pub receivers_of : Option Shared → ℕ
receivers_of None = 0
receivers_of (Some t) = 1

-- the futures of such results
abbrev pub IsFutureDef : SemType → AtomDef → Type 0
IsFutureDef r def = (t : SemType) × IsSameType r t × (def ≡ FutureAtom t)

module _ (passes : List AtomDef → Asked → TypeLimit → Type 0) where
  -- a member of the receiver
  abbrev pub gives_member : Keys → ℕ → LibraryCall → Shared → Place → Step
  gives_member keys count call receiver at = member_at passes (sem_of receiver) keys at ▷ λ m. gives_by count call (IsType passes m) at

  -- a new list of its items
  abbrev pub lists_members : ℕ → LibraryCall → Shared → Place → Step
  lists_members count call receiver at = member_at passes (sem_of receiver) AnyIndex at ▷ λ m. lists_by count call (IsType passes m) at

  -- a call of a function value that gives this is started
  abbrev pub starts_given : ℕ → SemType → Place → Step
  starts_given count r at =
      asking (adds (λ env. IsFutureAtom passes r) (Some at)) ▷ λ atom. makes_strict count (form.Start callee.Value) (λ env t. t ≡ plain (Atom atom)) at
