use Rattle.std.proofs.Common.{arith}
use Rattle.needs_of_values.proofs.Pairs.{two-at}
use Rattle.needs_of_values.proofs.choosing.last_two.Goals as goal

pub returns : goal.returns
returns c = two-at c.args.found.now _ _ (omega (arith, c.if-count-lt2.false)) c.index-found-count.is c.index-found-count-2.is
