-- What of the outside a run speaks of.
use Rattle.std.specs.Prelude.{◌≡◌, ℕ, List, Option, Result, Ok, Err}
use Rattle.bal_base.specs.declared.stop.Stop.{Stop}
use Rattle.bal_base.specs.declared.stop.Stop.TheVariants.{Memory, Fault}
use Rattle.bal_io.specs.Faults.{Rises}
use Rattle.package_runs.specs.declared.accepted.RunFault.{RunFault}
use Rattle.package_runs.specs.declared.accepted.RunFault.TheVariants as fault

-- how many calls on the input and on the output failed, what is left of the input, and what was written, where they tell it
pub record Outside : Type 0 where
  pub input_faults : ℕ
  pub rest : Option (List ℕ)
  pub output_faults : ℕ
  pub written : Option (List ℕ)

abbrev pub outside : ℕ → Option (List ℕ) → ℕ → Option (List ℕ) → Outside
outside input_faults rest output_faults written =
    record { input_faults = input_faults; rest = rest; output_faults = output_faults; written = written }

-- no call on either failed
abbrev pub NoneFailed : Outside → Outside → Type 0
NoneFailed before after = (after.input_faults ≡ before.input_faults) × (after.output_faults ≡ before.output_faults)

-- each count rose exactly where the answer is that a call on its object failed
abbrev pub CountsRunFaults : {A : Type 0} → Outside → Outside → Result A (Stop RunFault) → Type 0
CountsRunFaults before after (Ok o) = NoneFailed before after
CountsRunFaults before after (Err Memory) = NoneFailed before after
CountsRunFaults before after (Err (Fault fault.Input)) =
    Rises before.input_faults after.input_faults × (after.output_faults ≡ before.output_faults)
CountsRunFaults before after (Err (Fault fault.Output)) =
    (after.input_faults ≡ before.input_faults) × Rises before.output_faults after.output_faults
CountsRunFaults before after (Err (Fault (fault.Types limit))) = NoneFailed before after

-- the input is as before
abbrev pub IsUntouched : Outside → Outside → Type 0
IsUntouched before after = (after.rest ≡ before.rest) × (after.input_faults ≡ before.input_faults)
