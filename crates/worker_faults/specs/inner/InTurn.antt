-- Events that are looked at one after another.
use Rattle.std.specs.Prelude.{ℕ, Bool, List, not, ◌||◌}
use Rattle.bal_base.specs.declared.fault.Fault.{Fault}
use Rattle.checks.specs.Checks.{Outcome}
use Rattle.worker_pairing.specs.Faults.{Atoms, names_other, none_bad}
use Rattle.worker_pairing.specs.Marks.{Numbered}

abbrev pub no_peer_among : ℕ → Numbered → Bool
no_peer_among workers e = e.saying.initial || not (names_other workers e.worker e.saying.kind)

-- whatever comes of those that are left comes of all
abbrev pub Leads : (Numbered → Bool) → (Numbered → Fault → Type 0) → List Numbered → List Numbered → Type 0
Leads bad fault whole rest = (env : Atoms) (o : Outcome (Unit {0})) → none_bad bad fault rest env o env → none_bad bad fault whole env o env
