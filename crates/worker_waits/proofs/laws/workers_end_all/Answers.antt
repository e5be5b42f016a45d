use Rattle.worker_waits.proofs.NoStall.{ends-all}
use Rattle.worker_waits.proofs.laws.workers_end_all.Goals as goal

pub returns : goal.returns
returns g c = ends-all g.M.AnyMachine.machine
