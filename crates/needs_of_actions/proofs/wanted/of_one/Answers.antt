use Rattle.std.proofs.Common.{arith}
use Rattle.needs_of_actions.proofs.Awaited.{one-of-all, only-below}
use Rattle.needs_of_actions.proofs.wanted.of_one.Goals as goal

pub returns-in-len1-clause-below : goal.returns-in-len1-clause-below
returns-in-len1-clause-below c = λ n all. only-below n c.args.wants.now c.want-item.result c.single.result (omega arith) c.want-item.is c.single.ensures all

pub returns-in-len1-clause-is : goal.returns-in-len1-clause-is
returns-in-len1-clause-is c = λ env. one-of-all env c.args.wants.now c.want-item.result c.single.result (omega arith) c.want-item.is c.single.ensures
