-- What is told of a row.
use Rattle.std.specs.Prelude.{◌≡◌, Bool, true, false}

-- whether the row asks something, whether it fails, and whether memory ran out when it was told of
pub record Telling : Type 0 where
  pub asks : Bool
  pub fails : Bool
  pub lacks_memory : Bool

-- nothing is told
abbrev pub nothing : Telling
nothing = record { asks = true; fails = false; lacks_memory = false }

-- where the fact holds all is as before, and else the row fails
pub record FailsUnless (Fact : Type 0) (before after : Telling) : Type 0 where
  pub holds : Fact → after ≡ before
  pub fails : (Fact → ⊥) → after.fails ≡ true
