-- Checks one behind another that leave the atoms as they are, and what those that are done gave.
use Rattle.std.specs.Prelude.{◌++◌, List, Result, Ok, Err}
use Rattle.std.specs.Global.{Vec}
use Rattle.bal_base.specs.declared.fault.Fault.{Fault}
use Rattle.bal_base.specs.declared.stop.Stop.{Stop}
use Rattle.checks.specs.Checks.{Check, Comes}
use Rattle.worker_pairing.specs.Faults.{Atoms}
use Rattle.package_plans.specs.Planned.{all_give}

-- an answer as a list
abbrev pub given : {B : Type 0} → Result (Vec B) (Stop Fault) → Result (List B) (Stop Fault)
given (Ok v) = Ok v.items
given (Err stop) = Err stop

-- what was given before stands in front
abbrev pub behind : {B : Type 0} → List B → Result (List B) (Stop Fault) → Result (List B) (Stop Fault)
behind done (Ok more) = Ok (done ++ more)
behind done (Err stop) = Err stop

-- whatever comes of the checks that are left comes, behind what was given, of all
abbrev pub Leads : {A B : Type 0} → (A → Check Atoms B) → Atoms → List A → List B → List A → Type 0
Leads check env whole done rest = (r : Result (List _) (Stop Fault)) → Comes (all_give check rest) env r env → Comes (all_give check whole) env (behind done r) env
