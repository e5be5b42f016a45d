use Rattle.std.proofs.Common.{refl}
use Rattle.needs_of_loops.proofs.loops.list_source.Goals as goal

pub returns : goal.returns
returns c = (c.args.list, refl, refl)
