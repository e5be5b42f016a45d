use Rattle.std.proofs.Common.{length}
use Rattle.type_builder.proofs.flat.+union.Given as goal

abbrev pub decreases-union : goal.decreases-union
decreases-union l = length l.members.now
