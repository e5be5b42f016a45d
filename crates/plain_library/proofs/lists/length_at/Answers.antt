use Rattle.std.proofs.Common.{rules}
use Rattle.bal_base.proofs.Vectors.{length-small}
use Rattle.plain_library.proofs.lists.length_at.Goals as goal

pub returns-in-Some-clause-bound : goal.returns-in-Some-clause-bound
returns-in-Some-clause-bound c = let l = length-small c.in-Some.items.now in search (rules, l)
