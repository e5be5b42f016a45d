-- The laws of traps and of questions.
use Rattle.std.specs.Prelude.{◌≡◌, ◌≤◌, ◌<◌, ◌+◌, ℕ, List, Option, Some, All, length, slice_get}
use Rattle.std.specs.List.{flat_map}
use Rattle.type_model.specs.declared.atoms.AtomDef.{AtomDef}
use Rattle.stack_code.specs.declared.code.Code.{Code}
use Rattle.stack_code.specs.declared.code.Unit.{Unit as CodeUnit}
use Rattle.stack_code.specs.Places.{Station, traps_from}
use Rattle.code_numbers.specs.Traps.{AreTrapRows}
use Rattle.code_needs.specs.FieldNeeds.{FieldsPass}
use Rattle.code_needs.specs.Needs.{Need}
use Rattle.code_needs.specs.PlaceNeeds.{PlacePasses, place_needs}
use Rattle.need_questions.specs.declared.question.NeedQuestion.{NeedQuestion}
use Rattle.need_questions.specs.NeedsAsked.{IsAskableNeed, needs_of}
use Rattle.needs_of_commands.specs.Askable.{HasDefined, MakesCallable, MayBeAsked}

-- the traps in whose reach a place is stand before it, from the first place of its unit on
abbrev pub TrapsStandBefore : Type 0
TrapsStandBefore =
    (code : Code) (first k : ℕ) (traps : List ℕ) → traps_from code first k ≡ Some traps → All (λ t. (first ≤ t) × (t < first + k)) traps

-- so the trap that a row names stands before the row's place, and a chain of traps ends
abbrev pub RowsDescend : Type 0
RowsDescend =
    (code : Code) (first count : ℕ) (rows : List (Option ℕ)) → AreTrapRows code first count rows →
    (k s : ℕ) → slice_get rows k ≡ Some (Some s) → s < first + k

-- where all needs of questions may be asked about, so may the questions be
abbrev pub QuestionsMayBeAsked : Type 0
QuestionsMayBeAsked =
    (env : List AtomDef) (questions : List NeedQuestion) →
    All (MayBeAsked env) (flat_map needs_of questions) → All (IsAskableNeed env) questions

-- where the fields of a code pass, and each place does as one of some worker's, what is to be known of the code before is known
abbrev pub PassedIsDefined : Type 0
PassedIsDefined =
    (code : Code) → FieldsPass code →
    ((p : ℕ) → p < length code.instrs → (u : CodeUnit) × (station : Station) × PlacePasses code u station p) → HasDefined code

-- all needs of a place may be asked about, where its unit is one of the code
abbrev pub PlaceNeedsMayBeAsked : Type 0
PlaceNeedsMayBeAsked =
    (code : Code) (n : ℕ) (u : CodeUnit) (station : Station) (p : ℕ) (needs : List Need) →
    HasDefined code → slice_get code.units n ≡ Some u → MakesCallable code p → place_needs code u station p ≡ Some needs →
    All (MayBeAsked code.atoms) needs
