-- The laws of what is said of places.
use Rattle.std.specs.Prelude.{◌↔◌, ◌<◌, ℕ, Bool, Option}
use Rattle.bal_base.specs.declared.shape.Shape.{Shape}
use Rattle.value_model.specs.Table.{TestTable}
use Rattle.stack_code.specs.declared.code.Code.{Code}
use Rattle.stack_code.specs.Places.{Tally}
use Rattle.stack_code.specs.WellTyped.{BreaksAt, HoldsAt}
use Rattle.code_needs.specs.CodeNeeds.{TellsMade}
use Rattle.verifier_answers.specs.Showing.{AllMet, NumbersPass, Shows}
use Rattle.verifier_answers.specs.Verifying.{IsBad, IsVerified}

-- a place holds exactly where its numbers pass and its needs are met
abbrev pub PlacesDecide : Type 0
PlacesDecide = (code : Code) (made : ℕ → ℕ → Tally → Bool) (p : ℕ) → TellsMade code made → HoldsAt code p ↔ (NumbersPass code made p × AllMet code made p)

-- what is shown of the first place that doesn't hold shows that it is the first
abbrev pub ShownPlacesBreak : Type 0
ShownPlacesBreak =
    (code : Code) (made : ℕ → ℕ → Tally → Bool) (p : ℕ) (shape : Option Shape) → TellsMade code made → ((q : ℕ) → q < p → HoldsAt code q) → Shows code made p shape → BreaksAt code p

-- code that is verified has no bad place
abbrev pub VerifiedIsNotBad : Type 0
VerifiedIsNotBad = (code : Code) (table : TestTable) (place : ℕ) (shape : Option Shape) → IsVerified code table → ¬ (IsBad code place shape)
