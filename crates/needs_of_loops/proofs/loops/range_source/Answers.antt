use Rattle.std.proofs.Common.{refl}
use Rattle.needs_of_loops.proofs.loops.range_source.Goals as goal

pub returns : goal.returns
returns c = (c.args.from, c.args.to, refl, refl, refl)
