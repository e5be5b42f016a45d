-- The first place of a unit that doesn't stand, and what shows it.
use Rattle.std.specs.Prelude.{◌≤◌, ◌<◌, ℕ, Option, Some, None, IsSome, IsSomeAnd, Contains}
use Rattle.bal_base.specs.declared.shape.Shape.{Shape}
use Rattle.stack_code.specs.declared.code.Code.{Code}
use Rattle.stack_code.specs.declared.code.Unit.{Unit as CodeUnit}
use Rattle.stack_code.specs.Flow.{IsTypedAt}
use Rattle.stack_code.specs.Places.{IsIn, Station}
use Rattle.code_needs.specs.Needs.{IsMet, Need}
use Rattle.code_needs.specs.PlaceNeeds.{PlacePasses, place_needs}
use Rattle.code_verifier.specs.Asked.{IsAgainst}
use Rattle.needs_of_commands.specs.Askable.{MakesCallable}

-- the unit, as one of this worker's
module _ (code : Code) (u : CodeUnit) (station : Station) where
  -- ---- one place

  -- it is typed, and of what function values and futures are made there can be called
  abbrev pub Stands : ℕ → Type 0
  Stands p = MakesCallable code p × IsTypedAt code u station p

  -- all that is tested of numbers there passes, whatever its needs of types
  pub record NumbersPass (p : ℕ) : Type 0 where
    pub callable : MakesCallable code p
    pub place : PlacePasses code u station p
    pub needs : IsSome (place_needs code u station p)

  abbrev pub IsNeedOf : ℕ → Need → Type 0
  IsNeedOf p need = IsSomeAnd (place_needs code u station p) (λ all. Contains all need)

  -- a need of the place isn't met, as the shape shows
  pub record IsUnmetBy (p : ℕ) (x : Shape) : Type 0 where
    pub need : Need
    pub here : IsNeedOf p need
    pub against : IsAgainst code.atoms need x
    pub unmet : ¬ (IsMet code.atoms need)

  -- the numbers don't pass, and then there is no shape; or they do, and the shape shows a need that isn't met
  abbrev pub Shows : ℕ → Option Shape → Type 0
  Shows p None = ¬ (NumbersPass p)
  Shows p (Some x) = NumbersPass p × IsUnmetBy p x

  -- ---- one after another

  abbrev pub AllStand : Type 0
  AllStand = (p : ℕ) → IsIn u p → Stands p

  abbrev pub StandBefore : ℕ → Type 0
  StandBefore p = (q : ℕ) → u.first ≤ q → q < p → Stands q

  -- the place is in the unit, all before it there stand, and this one doesn't, as the shape shows, or as there is none
  pub record IsFirstFallen (p : ℕ) (why : Option Shape) : Type 0 where
    pub inside : IsIn u p
    pub before : StandBefore p
    pub shown : Shows p why
