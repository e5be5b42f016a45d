use Rattle.needs_of_rows.proofs.Finding.{found-between, found-part}
use Rattle.needs_of_rows.proofs.library.part_of.Goals as goal

pub returns-in-Some : goal.returns-in-Some
returns-in-Some c = found-part c.args.whole c.args.operands.now c.in-Some.a.now c.in-Some.from.now _ _ c.in-Some.ensures c.both_within.ensures

pub returns-in-None : goal.returns-in-None
returns-in-None c = found-between c.args.whole c.args.operands.now _ _ c.in-None.ensures c.between.ensures
