-- How an answer of the front is told.
use Rattle.std.specs.Prelude.{◌≡◌, ◌⊎◌, Result, Err}
use Rattle.bal_base.specs.declared.fault.Fault.{Fault}
use Rattle.bal_base.specs.declared.stop.Stop.{Stop}
use Rattle.bal_base.specs.declared.stop.Stop.TheVariants.{Memory}
use Rattle.compile_front.specs.declared.accepting.Accepted.{Accepted}

-- as it is, or there was no memory
abbrev pub IsTold : Result Accepted (Stop Fault) → Result Accepted (Stop Fault) → Type 0
IsTold answer told = (told ≡ answer) ⊎ (told ≡ Err Memory)
