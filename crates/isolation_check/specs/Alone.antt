-- Of one package the check comes to one thing alone, but for a question that is too large, which may stand in the place of any outcome.
use Rattle.std.specs.Prelude.{◌≡◌, ◌⊎◌, ⊤, Result, Ok, Err}
use Rattle.bal_base.specs.declared.fault.Fault.{Fault}
use Rattle.bal_base.specs.declared.fault.FaultCode.TheVariants.{TypeLimit as TooLarge}
use Rattle.bal_base.specs.declared.stop.Stop.{Stop}
use Rattle.bal_base.specs.declared.stop.Stop.TheVariants.{Memory, Fault as OwnFault}
use Rattle.checks.specs.Checks.{Gives, Outcome, Refuses}

abbrev pub IsLimit : Fault → Type 0
IsLimit f = f.code ≡ TooLarge

-- two outcomes are one: both give, or both refuse with one fault, which has the same path; or one met a limit
abbrev pub AreOne : Outcome (Unit {0}) → Outcome (Unit {0}) → Type 0
AreOne (Gives u) (Gives v) = ⊤
AreOne (Gives u) (Refuses g) = IsLimit g
AreOne (Refuses f) (Gives v) = IsLimit f
AreOne (Refuses f) (Refuses g) = IsLimit f ⊎ (IsLimit g ⊎ (g ≡ f))

-- whatever else a check may come to is what was answered; nothing is said of want of memory
abbrev pub IsOnly : Result (Unit {0}) (Stop Fault) → Outcome (Unit {0}) → Type 0
IsOnly (Ok u) other = AreOne (Gives u) other
IsOnly (Err (OwnFault f)) other = AreOne (Refuses f) other
IsOnly (Err Memory) other = ⊤
