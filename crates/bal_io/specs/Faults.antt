-- How an object of the outside counts its failed calls.
use Rattle.std.specs.Prelude.{◌≡◌, ◌<◌, ◌⊎◌, ℕ, Bool, Result, Ok, Err}
use Rattle.bal_base.specs.declared.stop.Failed.{Failed}
use Rattle.bal_base.specs.declared.stop.Stop.{Stop}
use Rattle.bal_base.specs.declared.stop.Stop.TheVariants.{Memory, Fault}

-- the last value of a 64-bit count
abbrev pub last_count : ℕ
last_count = 18446744073709551615

-- a count rose, or stands at the last value of a 64-bit count
abbrev pub Rises : ℕ → ℕ → Type 0
Rises old new = (old < new) ⊎ ((old ≡ last_count) × (new ≡ last_count))

-- a call raises the count exactly where it answers that it failed
abbrev pub CountsFaults : {A : Type 0} → ℕ → ℕ → Result A (Stop Failed) → Type 0
CountsFaults old new (Ok _) = new ≡ old
CountsFaults old new (Err Memory) = new ≡ old
CountsFaults old new (Err (Fault _)) = Rises old new

-- which of the two streams a sink of the system writes to, and how many of its calls failed
pub record StreamFaults : Type 0 where
  pub diagnostics : Bool
  pub faults : ℕ
