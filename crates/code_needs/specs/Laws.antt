-- The laws of needs.
use Rattle.std.specs.Prelude.{◌↔◌, ◌≤◌, ◌<◌, ℕ, Bool, List, Option, length}
use Rattle.type_model.specs.declared.atoms.AtomDef.{AtomDef}
use Rattle.type_model.specs.declared.basic.SemType.{SemType}
use Rattle.operations.specs.declared.operation.Operation.{Operation}
use Rattle.operations.specs.Rows.{Surroundings}
use Rattle.operations.specs.Typing.{OpTyped}
use Rattle.stack_code.specs.declared.code.Code.{Code}
use Rattle.stack_code.specs.declared.code.Unit.{Unit as CodeUnit}
use Rattle.stack_code.specs.Flow.{IsTypedAt}
use Rattle.stack_code.specs.Places.{Station, Tally}
use Rattle.stack_code.specs.Tables.{HasFields}
use Rattle.stack_code.specs.WellTyped.{PlaceHolds, WellTyped}
use Rattle.code_needs.specs.CodeNeeds.{NeedsAt, Passes, TellsMade}
use Rattle.code_needs.specs.Combining.{AreMet}
use Rattle.code_needs.specs.FieldNeeds.{FieldsPass}
use Rattle.code_needs.specs.Needs.{IsMet, Need}
use Rattle.code_needs.specs.PlaceNeeds.{PlacePasses, place_needs}
use Rattle.code_needs.specs.RowNeeds.{row_needs}

-- an operation is typed exactly where the tests of its row pass and its needs are met
abbrev pub NeedsDecideRows : Type 0
NeedsDecideRows =
    (env : List AtomDef) (place : Surroundings) (o : Operation) (operands : List SemType) (result : Option SemType) →
    OpTyped env place o operands result ↔ AreMet env (row_needs env place o operands result)

-- a place is typed, as one of this worker's, exactly where its numbers pass and its needs are met
abbrev pub NeedsDecidePlaces : Type 0
NeedsDecidePlaces =
    (code : Code) (u : CodeUnit) (station : Station) (p : ℕ) →
    IsTypedAt code u station p ↔ (PlacePasses code u station p × AreMet code.atoms (place_needs code u station p))

-- and it holds exactly where all its numbers pass and each of its needs is met
abbrev pub NeedsDecideCode : Type 0
NeedsDecideCode =
    (code : Code) (made : ℕ → ℕ → Tally → Bool) (p : ℕ) → TellsMade code made →
    PlaceHolds code p ↔ (Passes code made p × ((need : Need) → NeedsAt code made p need → IsMet code.atoms need))

-- the fields of a code hold exactly where their numbers pass and their needs are met
abbrev pub NeedsDecideFields : Type 0
NeedsDecideFields = (code : Code) → HasFields code ↔ FieldsPass code

-- where its fields pass, a number that is no place has nothing to hold
abbrev pub NothingBeyond : Type 0
NothingBeyond = (code : Code) (p : ℕ) → FieldsPass code → length code.instrs ≤ p → PlaceHolds code p

-- a code is well typed exactly where its fields and all its places pass, and each of their needs is met
abbrev pub NeedsDecideAll : Type 0
NeedsDecideAll =
    (code : Code) (made : ℕ → ℕ → Tally → Bool) → TellsMade code made →
    WellTyped code
    ↔ (FieldsPass code × ((p : ℕ) → p < length code.instrs → Passes code made p × ((need : Need) → NeedsAt code made p need → IsMet code.atoms need)))
