-- Which code is well typed, and which is the first place that breaks a rule.
use Rattle.std.specs.Prelude.{◌≡◌, ◌<◌, ℕ}
use Rattle.stack_code.specs.declared.code.Code.{Code}
use Rattle.stack_code.specs.Places.{Station, IsIn, IsStation, IsWorkerUnit}
use Rattle.stack_code.specs.Flow.{IsBoundedAt, IsTypedAt}
use Rattle.stack_code.specs.Messages.{TalksWell}
use Rattle.stack_code.specs.Tables.{EachUnit, HasFields, UsesWell}

module _ (code : Code) where
  -- all that is asked of one place
  pub record PlaceHolds (p : ℕ) : Type 0 where
    -- it is typed, as a place of the worker that its unit is
    pub typed : EachUnit code (λ n u. IsIn u p → (station : Station) → IsStation code n station → IsTypedAt code u station p × IsBoundedAt code u station (IsWorkerUnit code n) p)
    -- what it names is as it should be
    pub uses : EachUnit code (λ n u. IsIn u p → UsesWell code n u p)
    -- and so is what it says to other workers, or hears from them
    pub talks : TalksWell code p

  -- the fields beside instructions and maps count at place 0
  abbrev pub HoldsAt : ℕ → Type 0
  HoldsAt p = (p ≡ 0 → HasFields code) × PlaceHolds p

pub record WellTyped (code : Code) : Type 0 where
  pub fields : HasFields code
  -- a number that is no place has nothing to hold
  pub places : (p : ℕ) → PlaceHolds code p

-- the place is the first one that breaks a rule
abbrev pub BreaksAt : Code → ℕ → Type 0
BreaksAt code p = (¬ (HoldsAt code p)) × ((q : ℕ) → q < p → HoldsAt code q)
