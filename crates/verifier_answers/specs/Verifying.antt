-- What each answer of the verifier says: that code is verified, which place is bad, and which limit stopped it.
use Rattle.std.specs.Prelude.{◌≡◌, ◌<◌, ◌≤◌, ◌*◌, ℕ, Bool, List, Option, All, length, map}
use Rattle.std.specs.List.{AllZip}
use Rattle.bal_base.specs.declared.shape.Shape.{Shape}
use Rattle.type_model.specs.declared.answers.TypeLimit.{TypeLimit}
use Rattle.type_model.specs.declared.atoms.AtomDef.{AtomDef}
use Rattle.type_model.specs.Calls.{Asked, KeepsTypes}
use Rattle.type_model.specs.SameType.{IsSameType}
use Rattle.value_model.specs.Exact.{AnswersExactly, FillsExactly}
use Rattle.value_model.specs.Table.{IsExact, TestTable}
use Rattle.stack_code.specs.declared.code.Code.{Code}
use Rattle.stack_code.specs.Places.{Tally}
use Rattle.stack_code.specs.WellTyped.{HoldsAt, WellTyped}
use Rattle.code_needs.specs.CodeNeeds.{TellsMade}
use Rattle.code_verifier.specs.declared.kind_types.KnownTypes.{KnownTypes}
use Rattle.code_verifier.specs.KindSets.{AreKnown}
use Rattle.code_verifier.specs.LedTo.{SomePasses}
use Rattle.test_answers.specs.ValueTypes.{AsksOfAtoms}
use Rattle.atom_questions.specs.declared.limits.QuestionLimit.{QuestionLimit}
use Rattle.need_questions.specs.declared.question.NeedQuestion.{NeedQuestion}
use Rattle.need_questions.specs.NeedsAsked.{needs_of}
use Rattle.need_questions.specs.NeedStops.{NeedStops}
use Rattle.verifier_answers.specs.Showing.{IsNeedAt, NumbersPass, Shows}

-- ---- how many tests there are

-- a table has so many answers at most
abbrev pub most_tests : ℕ
most_tests = 16777216

abbrev pub tests_of : Code → ℕ
tests_of code = length code.inherent * length code.tested

-- ---- verified

-- the table is that of the code: its answers and fillers are what they should be of the code's atoms and tested types, of which it
-- has copies
pub record IsTableOf (code : Code) (table : TestTable) : Type 0 where
  pub inherent : table.inherent ≡ code.inherent
  pub units : table.units ≡ map (λ u. (u.arrow, u.future)) code.units
  pub atoms : KeepsTypes code.atoms table.atoms
  pub tested : AllZip IsSameType code.tested table.tested
  pub answers : AllZip (AnswersExactly code.atoms code.tested) code.inherent table.answers
  pub fillers : AllZip (FillsExactly code.atoms) code.inherent table.fillers
  pub exact : IsExact table

pub record IsVerified (code : Code) (table : TestTable) : Type 0 where
  pub few : tests_of code ≤ most_tests
  pub typed : WellTyped code
  pub tests : IsTableOf code table

-- ---- refused

-- all places before this one hold
abbrev pub HoldBefore : Code → ℕ → Type 0
HoldBefore code p = (q : ℕ) → q < p → HoldsAt code q

-- the place is the first one that doesn't hold, as the shape shows, or as there is none
pub record IsBad (code : Code) (place : ℕ) (shape : Option Shape) : Type 0 where
  pub few : tests_of code ≤ most_tests
  pub made : ℕ → ℕ → Tally → Bool
  pub tells : TellsMade code made
  pub before : HoldBefore code place
  pub shown : Shows code made place shape

-- ---- stopped

-- all places before one hold, the numbers of this one pass, and a question of its needs stops so, over atoms that keep the types of
-- the code, and over which `anydata` is known
pub record IsStoppedAt (passes : List AtomDef → Asked → TypeLimit → Type 0) (code : Code) (limit : QuestionLimit) : Type 0 where
  pub few : tests_of code ≤ most_tests
  pub place : ℕ
  pub made : ℕ → ℕ → Tally → Bool
  pub tells : TellsMade code made
  pub before : HoldBefore code place
  pub numbers : NumbersPass code made place
  pub question : NeedQuestion
  pub asked : All (IsNeedAt code made place) (needs_of question)
  pub env : List AtomDef
  pub keeps : KeepsTypes code.atoms env
  pub known : KnownTypes
  pub are_known : AreKnown env known
  pub stops : NeedStops passes known env question limit

-- the code is well typed, and a question of its table is too large
pub record IsStoppedFilling (passes : List AtomDef → Asked → TypeLimit → Type 0) (code : Code) (limit : TypeLimit) : Type 0 where
  pub few : tests_of code ≤ most_tests
  pub typed : WellTyped code
  pub env : List AtomDef
  pub keeps : KeepsTypes code.atoms env
  pub passed : SomePasses passes env (AsksOfAtoms env code.tested code.inherent) limit

-- there are too many tests
abbrev pub HasTooManyTests : Code → ℕ → Type 0
HasTooManyTests code count = (count ≡ tests_of code) × (most_tests < count)
