-- The numbers of a place and its needs, the fields of a code at place 0 included, and what shows that the place breaks a rule.
use Rattle.std.specs.Prelude.{◌≡◌, ◌≢◌, ◌⊎◌, ◌<◌, ◌^◌, ℕ, Bool, Option, Some, None, IsSome, IsSomeAnd, All, Contains, length, option_to_list, slice_get}
use Rattle.bal_base.specs.declared.shape.Shape.{Shape}
use Rattle.stack_code.specs.declared.code.Code.{Code}
use Rattle.stack_code.specs.declared.code.Unit.{Unit as CodeUnit}
use Rattle.stack_code.specs.Places.{IsWorkerUnit, Tally}
use Rattle.stack_code.specs.Tables.{EachUnit, FollowFrom, HasFillers, HasTestedMembers, HasTypes, IsConstant, IsInherent, IsInitialiser, IsWorkerWell, UnitAt}
use Rattle.code_needs.specs.CodeNeeds.{NeedsAt, Passes}
use Rattle.code_needs.specs.Combining.{Needs}
use Rattle.code_needs.specs.FieldNeeds.{initialiser_needs, main_needs, own_needs, unit_needs}
use Rattle.code_needs.specs.Needs.{IsMet, Need}
use Rattle.code_verifier.specs.Asked.{IsAgainst}

-- one of these needs, where no test failed
abbrev pub IsAmong : Needs → Need → Type 0
IsAmong needs need = IsSomeAnd needs (λ all. Contains all need)

module _ (code : Code) where
  -- ---- fields

  -- the tests of fields pass, whatever their needs of types
  pub record FieldNumbersPass : Type 0 where
    pub types : HasTypes code
    pub constants : All (IsConstant code) code.constants
    pub places : FollowFrom code 0 code.units (length code.instrs)
    pub maps : length code.maps ≡ length code.instrs
    pub stacks : All (λ m. length m.stack < 2 ^ 63) code.maps
    pub units : EachUnit code (λ n u. IsSome (unit_needs code u))
    pub rests : EachUnit code (λ n u. All (IsInherent code) (option_to_list u.rest))
    pub without : EachUnit code (λ n u. (IsWorkerUnit code n ⊎ IsInitialiser code n) → (u.arrow ≡ 0) × (u.future ≡ 0))
    pub own : EachUnit code (λ n u. (¬ (IsWorkerUnit code n)) → (¬ (IsInitialiser code n)) → IsSome (own_needs code u))
    pub workers : EachUnit code (λ n u. IsWorkerUnit code n → IsWorkerWell code n u)
    pub initialisers : All (λ n. UnitAt code n (λ u. (code.start ≢ n) × IsSome (initialiser_needs code u))) code.initialisers
    pub main : UnitAt code code.start (λ u. IsSome (main_needs code u))
    pub inherent : All (λ a. IsSomeAnd (slice_get code.atoms a) (λ d. HasFillers code d × HasTestedMembers code d)) code.inherent

  -- a need of a unit, of its own atoms, of an initialiser, or of main
  pub record OfUnitFields (need : Need) : Type 0 where
    pub number : ℕ
    pub unit : CodeUnit
    pub there : slice_get code.units number ≡ Some unit
    pub one : IsAmong (unit_needs code unit) need

  pub record OfOwnAtoms (need : Need) : Type 0 where
    pub number : ℕ
    pub unit : CodeUnit
    pub there : slice_get code.units number ≡ Some unit
    pub no_worker : ¬ (IsWorkerUnit code number)
    pub no_initialiser : ¬ (IsInitialiser code number)
    pub one : IsAmong (own_needs code unit) need

  pub record OfInitialiser (need : Need) : Type 0 where
    pub number : ℕ
    pub unit : CodeUnit
    pub named : Contains code.initialisers number
    pub there : slice_get code.units number ≡ Some unit
    pub one : IsAmong (initialiser_needs code unit) need

  pub record OfMain (need : Need) : Type 0 where
    pub unit : CodeUnit
    pub there : slice_get code.units code.start ≡ Some unit
    pub one : IsAmong (main_needs code unit) need

  abbrev pub IsFieldNeed : Need → Type 0
  IsFieldNeed need = (OfUnitFields need ⊎ OfOwnAtoms need) ⊎ (OfInitialiser need ⊎ OfMain need)

  -- ---- places, with the fields at place 0

  module _ (made : ℕ → ℕ → Tally → Bool) (p : ℕ) where
    abbrev pub NumbersPass : Type 0
    NumbersPass = (p ≡ 0 → FieldNumbersPass) × Passes code made p

    abbrev pub IsNeedAt : Need → Type 0
    IsNeedAt need = ((p ≡ 0) × IsFieldNeed need) ⊎ NeedsAt code made p need

    abbrev pub AllMet : Type 0
    AllMet = (need : Need) → IsNeedAt need → IsMet code.atoms need

    -- a need of the place isn't met, as the shape shows
    pub record IsUnmetBy (x : Shape) : Type 0 where
      pub need : Need
      pub here : IsNeedAt need
      pub against : IsAgainst code.atoms need x
      pub unmet : ¬ (IsMet code.atoms need)

    -- the numbers don't pass, and then there is no shape; or they do, and the shape shows a need that isn't met
    abbrev pub Shows : Option Shape → Type 0
    Shows None = ¬ NumbersPass
    Shows (Some x) = NumbersPass × IsUnmetBy x
