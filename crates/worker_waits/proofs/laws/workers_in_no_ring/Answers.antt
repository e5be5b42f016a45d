use Rattle.worker_waits.proofs.NoRing.{no-ring}
use Rattle.worker_waits.proofs.laws.workers_in_no_ring.Goals as goal

pub returns : goal.returns
returns g c = no-ring g.M.AnyMachine.machine
