-- Checks one behind another that leave the atoms as they are.
use Rattle.std.specs.Prelude.{Result, List}
use Rattle.bal_base.specs.declared.fault.Fault.{Fault}
use Rattle.bal_base.specs.declared.stop.Stop.{Stop}
use Rattle.checks.specs.Checks.{Check, Comes}
use Rattle.worker_pairing.specs.Faults.{Atoms, all_pass}

-- whatever comes of the checks that are left comes of all
abbrev pub Leads : {A : Type 0} → (A → Check Atoms (Unit {0})) → Atoms → List A → List A → Type 0
Leads check env whole rest = (r : Result (Unit {0}) (Stop Fault)) → Comes (all_pass check rest) env r env → Comes (all_pass check whole) env r env
