use Rattle.plain_copies.proofs.Sums.{cells-all, cells-step}
use Rattle.plain_copies.proofs.cells.cells_of.Goals as goal

pub loop-s-preserved : goal.loop-s-preserved
loop-s-preserved c =
    cells-step c.args.structures.now c.loop-s.s-index c.s-item.result c.more_cells-sum.result c.loop-s-test.true c.s-item.is (c.more_cells-sum.ensures _ c.loop-s.invariant)

pub returns : goal.returns
returns c =
    cells-all c.args.structures.now c.loop-s.s-index c.loop-s.sum c.loop-s-test.false c.loop-s.invariant
