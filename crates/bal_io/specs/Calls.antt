-- How an object in memory numbers its calls, and which of them fail.
use Rattle.std.specs.Prelude.{◌≡◌, ◌+◌, ℕ, Bool, true, false, List, [], ◌∷◌, Result, Ok, Err, Contains, min, if◌then◌else◌}
use Rattle.bal_io.specs.Faults.{last_count}
use Rattle.bal_base.specs.declared.stop.Failed.{Failed}
use Rattle.bal_base.specs.declared.stop.Stop.{Stop}
use Rattle.bal_base.specs.declared.stop.Stop.TheVariants.{Memory, Fault}
use Rattle.bal_io.specs.declared.calls.Fails.{Fails}
use Rattle.bal_io.specs.declared.calls.Fails.TheVariants.{Listed, Only}

-- the numbers of the calls that fail, how many calls were made, and how many of those failed
pub record CallLog : Type 0 where
  pub fails : List ℕ
  pub made : ℕ
  pub faults : ℕ

-- the numbers that an object is told
abbrev pub fails_list : Fails → List ℕ
fails_list (Listed numbers) = numbers.items
fails_list (Only number) = number ∷ []

-- no call was made yet
abbrev pub no_calls : List ℕ → CallLog
no_calls fails = record { fails = fails; made = 0; faults = 0 }

-- a 64-bit count after one more, which stays at its last value
abbrev pub one_more : ℕ → ℕ
one_more n = min (n + 1) last_count

-- the next call, whose number is how many were made, will fail
abbrev pub WillFail : CallLog → Type 0
WillFail log = Contains log.fails log.made

-- a call answered that it failed
abbrev pub has_failed : {A : Type 0} → Result A (Stop Failed) → Bool
has_failed (Ok _) = false
has_failed (Err Memory) = false
has_failed (Err (Fault _)) = true

-- one more call was made, and is counted as a fault where it failed
abbrev pub LogsCall : CallLog → CallLog → Bool → Type 0
LogsCall old new failed =
    (new.fails ≡ old.fails) × (new.made ≡ one_more old.made)
    × (new.faults ≡ (if failed then one_more old.faults else old.faults))
