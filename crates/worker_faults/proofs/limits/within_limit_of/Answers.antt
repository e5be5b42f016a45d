use Rattle.std.proofs.Common.{arith}
use Rattle.worker_faults.proofs.Stops.{limit-kept}
use Rattle.worker_faults.proofs.limits.within_limit_of.Goals as goal

pub returns-then-count-most : goal.returns-then-count-most
returns-then-count-most c env = limit-kept c.args.most c.args.count c.args.at env (omega arith)

pub returns : goal.returns
returns c env = c.too_many.ensures c.args.most env (omega arith)
