use Rattle.std.specs.Prelude.{◌+◌}
use Rattle.plain_run.proofs.Room.{sum-all, sum-more}
use Rattle.plain_run.proofs.structures.all_cells.Goals as goal

pub loop-s-preserved : goal.loop-s-preserved
loop-s-preserved c = sum-more (λ s. s.greatest + 1) c.args.structures.now c.loop-s.s-index c.s-item.result c.args.cells c.loop-s.all c.in_ok-all.all c.loop-s-test.true c.s-item.is c.loop-s.invariant c.in_ok-all.ensures

pub returns : goal.returns
returns c = sum-all (λ s. s.greatest + 1) c.args.structures.now c.loop-s.s-index c.args.cells c.loop-s.all c.loop-s-test.false c.loop-s.invariant
