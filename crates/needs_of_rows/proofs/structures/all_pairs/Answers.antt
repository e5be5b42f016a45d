use Rattle.needs_of_rows.proofs.Paired.{all-taken}
use Rattle.needs_of_rows.proofs.structures.all_pairs.Goals as goal

pub returns-in-Ok : goal.returns-in-Ok
returns-in-Ok c = all-taken c.args.count c.args.operands.now c.in-Ok.taken.items c.requires c.in-Ok.ensures
