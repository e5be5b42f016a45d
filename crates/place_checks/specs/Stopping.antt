-- Where a question of a unit's places stops for a limit.
use Rattle.std.specs.Prelude.{◌≡◌, ℕ, List, Some}
use Rattle.std.specs.List.{flat_map}
use Rattle.type_model.specs.declared.answers.TypeLimit.{TypeLimit}
use Rattle.type_model.specs.declared.atoms.AtomDef.{AtomDef}
use Rattle.type_model.specs.Calls.{Asked, KeepsTypes}
use Rattle.stack_code.specs.declared.code.Code.{Code}
use Rattle.stack_code.specs.declared.code.Unit.{Unit as CodeUnit}
use Rattle.stack_code.specs.Places.{IsIn, Station}
use Rattle.code_needs.specs.PlaceNeeds.{place_needs}
use Rattle.code_verifier.specs.declared.kind_types.KnownTypes.{KnownTypes}
use Rattle.code_verifier.specs.KindSets.{AreKnown}
use Rattle.atom_questions.specs.declared.limits.QuestionLimit.{QuestionLimit}
use Rattle.need_questions.specs.declared.question.NeedQuestion.{NeedQuestion}
use Rattle.need_questions.specs.NeedsAsked.{needs_of}
use Rattle.need_questions.specs.NeedStops.{FirstStops}
use Rattle.place_checks.specs.Standing.{NumbersPass, StandBefore}

module _ (passes : List AtomDef → Asked → TypeLimit → Type 0) (code : Code) (u : CodeUnit) (station : Station) (known : KnownTypes) where
  -- of questions whose needs are just those of the place, in order, the needs of the first ones are met, and the next one stops so,
  -- over atoms that keep the types of the code, and over which `anydata` is known
  pub record QuestionStops (p : ℕ) (limit : QuestionLimit) : Type 0 where
    pub questions : List NeedQuestion
    pub are : place_needs code u station p ≡ Some (flat_map needs_of questions)
    pub env : List AtomDef
    pub keeps : KeepsTypes code.atoms env
    pub are_known : AreKnown env known
    pub stops : FirstStops passes known env questions limit

  -- the first place that isn't known to stand: all before it do, its numbers pass, and a question of its needs stops so
  pub record StopsFirst (limit : QuestionLimit) : Type 0 where
    pub place : ℕ
    pub inside : IsIn u place
    pub before : StandBefore code u station place
    pub numbers : NumbersPass code u station place
    pub question : QuestionStops place limit
