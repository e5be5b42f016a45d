-- What an answer tells of a place and of a unit.
use Rattle.std.specs.Prelude.{ℕ, List, Option, Some, None}
use Rattle.type_model.specs.declared.answers.TypeLimit.{TypeLimit}
use Rattle.type_model.specs.declared.atoms.AtomDef.{AtomDef}
use Rattle.type_model.specs.Calls.{Asked}
use Rattle.stack_code.specs.declared.code.Code.{Code}
use Rattle.stack_code.specs.declared.code.Unit.{Unit as CodeUnit}
use Rattle.stack_code.specs.Places.{Station}
use Rattle.code_verifier.specs.declared.kind_types.KnownTypes.{KnownTypes}
use Rattle.atom_questions.specs.declared.limits.QuestionLimit.{QuestionLimit}
use Rattle.place_checks.specs.Standing.{AllStand, IsFirstFallen, NumbersPass}
use Rattle.place_checks.specs.Stopping.{QuestionStops}
use Rattle.unit_checks.specs.declared.units.Fallen.{Fallen}

module _ (code : Code) (u : CodeUnit) (station : Station) where
  -- all places of the unit stand, or this one is the first that doesn't, as the shape shows, or as there is none
  abbrev pub UnitTells : Option Fallen → Type 0
  UnitTells None = AllStand code u station
  UnitTells (Some fallen) = IsFirstFallen code u station fallen.place fallen.shape

  -- the numbers of the place pass, and a question of its needs stops so
  abbrev pub PlaceStops : (List AtomDef → Asked → TypeLimit → Type 0) → KnownTypes → ℕ → QuestionLimit → Type 0
  PlaceStops passes known p limit = NumbersPass code u station p × QuestionStops passes code u station known p limit
