use Rattle.std.proofs.Common.{arith}
use Rattle.worker_ranks.proofs.Named.{next-never, next-so}
use Rattle.worker_ranks.proofs.nodes.is_next.Goals as goal

pub returns-then-first-second : goal.returns-then-first-second
returns-then-first-second c = next-never c.args.first c.args.second (omega arith)

pub returns : goal.returns
returns c = next-so c.args.first c.args.second (omega arith)
