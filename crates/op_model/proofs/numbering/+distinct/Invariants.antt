use Rattle.std.proofs.Common.{length}
use Rattle.op_model.proofs.numbering.+distinct.Given as goal

abbrev pub decreases-distinct : goal.decreases-distinct
decreases-distinct l = length l.numbers.now
