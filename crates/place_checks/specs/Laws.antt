-- The laws of places that stand and of the first one that doesn't.
use Rattle.std.specs.Prelude.{◌≡◌, ◌↔◌, ℕ, Option}
use Rattle.bal_base.specs.declared.shape.Shape.{Shape}
use Rattle.stack_code.specs.declared.code.Code.{Code}
use Rattle.stack_code.specs.declared.code.Unit.{Unit as CodeUnit}
use Rattle.stack_code.specs.Places.{Station}
use Rattle.code_needs.specs.Needs.{IsMet, Need}
use Rattle.code_needs.specs.PlaceNeeds.{PlacePasses}
use Rattle.needs_of_commands.specs.Askable.{MakesCallable}
use Rattle.place_checks.specs.declared.needs.Standing.{Standing}
use Rattle.place_checks.specs.Standing.{AllStand, IsFirstFallen, IsNeedOf, NumbersPass, Shows, Stands}
use Rattle.place_checks.specs.Telling.{NeedsTell, PlaceTells}

-- a place stands exactly where its numbers pass and each of its needs is met
abbrev pub NeedsDecideStanding : Type 0
NeedsDecideStanding =
    (code : Code) (u : CodeUnit) (station : Station) (p : ℕ) →
    Stands code u station p ↔ (NumbersPass code u station p × ((need : Need) → IsNeedOf code u station p need → IsMet code.atoms need))

-- what shows that a place doesn't stand can't be shown of one that does
abbrev pub ShownIsFallen : Type 0
ShownIsFallen = (code : Code) (u : CodeUnit) (station : Station) (p : ℕ) (why : Option Shape) → Shows code u station p why → ¬ (Stands code u station p)

-- where all places of a unit stand, none is the first that doesn't
abbrev pub NoneIsFirst : Type 0
NoneIsFirst = (code : Code) (u : CodeUnit) (station : Station) (p : ℕ) (why : Option Shape) → AllStand code u station → ¬ (IsFirstFallen code u station p why)

-- only one place is the first that doesn't
abbrev pub FirstIsOne : Type 0
FirstIsOne =
    (code : Code) (u : CodeUnit) (station : Station) (p q : ℕ) (why other : Option Shape) →
    IsFirstFallen code u station p why → IsFirstFallen code u station q other → p ≡ q

-- where the other numbers of a place pass, what is told of its needs is told of the whole place
abbrev pub NeedsTellPlaces : Type 0
NeedsTellPlaces =
    (code : Code) (u : CodeUnit) (station : Station) (p : ℕ) (told : Standing) →
    MakesCallable code p → PlacePasses code u station p → NeedsTell code u station p told → PlaceTells code u station p told
