-- The laws of operations.
use Rattle.std.specs.Prelude.{◌≡◌, ℕ, List, AllPairs, ◌≢◌}
use Rattle.operations.specs.declared.operation.Operation.{Operation}
use Rattle.value_model.specs.declared.value.Value.{Value}
use Rattle.value_model.specs.Meaning.{Answers}
use Rattle.value_model.specs.Stands.{OwnTypes}
use Rattle.value_model.specs.World.{World, Came}
use Rattle.op_model.specs.ProgramFacts.{ProgramFacts}
use Rattle.op_model.specs.Common.{Common, Caller}
use Rattle.op_model.specs.Effects.{Effect}
use Rattle.op_model.specs.Library.{LibraryAnswers}
use Rattle.op_model.specs.Levels.{distinct, levels}
use Rattle.op_model.specs.Local.{acts}
use Rattle.op_model.specs.Performs.{Performs}

-- the natives come to one thing at most
abbrev pub AnswerOnce : Answers → Type 0
AnswerOnce natives =
    (own : OwnTypes) (op atom : ℕ) (args : List Value) (w : World) (x y : Came) →
    natives own op atom args w x → natives own op atom args w y → x ≡ y

-- each operation has one effect at most, where the natives come to one thing
abbrev pub HaveOneEffect : Answers → Type 0
HaveOneEffect natives =
    (facts : ProgramFacts) → AnswerOnce natives →
    (op : Operation) (vs : List Value) (caller : Caller) (c : Common) (e f : Effect) →
    Performs facts natives op vs caller c e → Performs facts natives op vs caller c f → e ≡ f

abbrev pub LibraryAnswersOnce : Type 0
LibraryAnswersOnce = AnswerOnce LibraryAnswers

-- no structure is copied twice: what is numbered level by level, each where it comes first, has no twins
abbrev pub LevelsHaveNoTwins : Type 0
LevelsHaveNoTwins = (kids : ℕ → List ℕ) (roots : List ℕ) (n : ℕ) → AllPairs (λ x y. x ≢ y) (levels distinct kids roots n)
