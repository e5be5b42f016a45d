use Rattle.std.proofs.Common.{drop, map}
use Rattle.worker_pairing.specs.Faults.{is_unpaired, unpaired_fault}
use Rattle.worker_members.specs.Held.{members_held, numbered_held}
use Rattle.worker_faults.specs.inner.InTurn.{Leads}
use Rattle.worker_faults.proofs.pairs.none_unpaired.Given as goal

abbrev pub invariant-loop-event : goal.invariant-loop-event
invariant-loop-event l =
    Leads (is_unpaired (members_held l.members)) (unpaired_fault (members_held l.members)) (map numbered_held l.text) (map numbered_held (drop l.event-index l.text))
