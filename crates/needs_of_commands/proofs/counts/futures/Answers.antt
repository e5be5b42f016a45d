use Rattle.std.proofs.Common.{arith, refl}
use Rattle.needs_of_commands.proofs.Numbered.{futures-more, futures-whole}
use Rattle.needs_of_commands.proofs.counts.futures.Goals as goal

pub loop-k-init : goal.loop-k-init
loop-k-init c = (refl, omega arith)

pub loop-k-preserved : goal.loop-k-preserved
loop-k-preserved c = (
  futures-more c.args.names.now c.loop-k.k c.name_at.result c.loop-k.count c.futures_of-count.result c.name_at.ensures c.loop-k.invariant.0 c.futures_of-count.ensures.count,
  omega (arith, c.futures_of-count.ensures.few, c.loop-k.invariant.1),
)

pub returns : goal.returns
returns c = futures-whole c.args.names.now c.loop-k.k c.loop-k.count (omega arith) c.loop-k.invariant.0
