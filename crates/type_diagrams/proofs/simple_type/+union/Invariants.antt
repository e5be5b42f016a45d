use Rattle.std.proofs.Common.{length}
use Rattle.type_diagrams.proofs.simple_type.+union.Given as goal

abbrev pub decreases-union : goal.decreases-union
decreases-union l = length l.sets.now
