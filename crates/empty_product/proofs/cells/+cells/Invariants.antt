use Rattle.std.proofs.Common.{length}
use Rattle.empty_product.proofs.cells.+cells.Given as goal

abbrev pub decreases-cells : goal.decreases-cells
decreases-cells g l = length l.undecided.now
