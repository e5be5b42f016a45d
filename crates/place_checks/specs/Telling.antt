-- What an answer tells of a place.
use Rattle.std.specs.Prelude.{◌≡◌, ℕ, List, Some, None, All, IfSome, IsSome}
use Rattle.type_model.specs.declared.atoms.AtomDef.{AtomDef}
use Rattle.type_model.specs.Calls.{KeepsTypes}
use Rattle.stack_code.specs.declared.code.Code.{Code}
use Rattle.stack_code.specs.declared.code.Unit.{Unit as CodeUnit}
use Rattle.stack_code.specs.Places.{Station}
use Rattle.code_needs.specs.Combining.{AreMet, Needs}
use Rattle.code_needs.specs.PlaceNeeds.{place_needs}
use Rattle.needs_of_commands.specs.Askable.{MayBeAsked}
use Rattle.place_checks.specs.declared.needs.Standing.{Standing}
use Rattle.place_checks.specs.declared.needs.Standing.TheVariants as told
use Rattle.place_checks.specs.Standing.{IsUnmetBy, Shows, Stands}

module _ (code : Code) (u : CodeUnit) (station : Station) (p : ℕ) where
  -- these are the needs of the place, all of them may be asked about, and the atoms keep the types of the code
  pub record AsksOf (needs : Needs) (env : List AtomDef) : Type 0 where
    pub are : needs ≡ place_needs code u station p
    pub may : IfSome needs (All (MayBeAsked code.atoms))
    pub keeps : KeepsTypes code.atoms env

  -- of all that the place needs of types: that the tests of numbers there pass and each need is met; that such a test fails; or that
  -- all such tests pass and the shape shows a need that isn't met
  abbrev pub NeedsTell : Standing → Type 0
  NeedsTell told.Stands = AreMet code.atoms (place_needs code u station p)
  NeedsTell (told.Falls None) = place_needs code u station p ≡ None
  NeedsTell (told.Falls (Some x)) = IsSome (place_needs code u station p) × IsUnmetBy code u station p x

  -- of the whole place
  abbrev pub PlaceTells : Standing → Type 0
  PlaceTells told.Stands = Stands code u station p
  PlaceTells (told.Falls why) = Shows code u station p why
