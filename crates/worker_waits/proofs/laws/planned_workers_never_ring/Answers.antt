use Rattle.worker_waits.proofs.PlannedTrees.{planned-never-ring}
use Rattle.worker_waits.proofs.laws.planned_workers_never_ring.Goals as goal

pub returns : goal.returns
returns g c = planned-never-ring g.T.Types.passes g.N.Meaning.answers
