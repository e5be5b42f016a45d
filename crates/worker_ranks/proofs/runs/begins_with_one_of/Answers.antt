use Rattle.std.proofs.Common.{ap, arith, sym}
use Rattle.worker_ranks.specs.inner.SideBySide.{begins_with}
use Rattle.worker_ranks.proofs.Neighbours.{begins-there, none-there}
use Rattle.worker_ranks.proofs.runs.begins_with_one_of.Goals as goal

pub returns-in-Some : goal.returns-in-Some
returns-in-Some c = begins-there c.args.run.now c.in-Some.b.now c.args.worker c.in-Some.ensures.lookup.3.0 c.in-Some.ensures.lookup.1

pub returns-in-None : goal.returns-in-None
returns-in-None c = let few = c.in-None.ensures.lookup.3 in sym (ap (begins_with c.args.worker) (none-there c.args.run.now (omega (arith, few))))
