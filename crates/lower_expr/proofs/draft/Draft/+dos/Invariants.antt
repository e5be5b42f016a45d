use Rattle.std.proofs.Common.{length}
use Rattle.lower_expr.proofs.draft.Draft.+dos.Given as goal

abbrev pub decreases-dos : goal.decreases-dos
decreases-dos l = length l.ops.now
