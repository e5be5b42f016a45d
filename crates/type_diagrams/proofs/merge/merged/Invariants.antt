use Rattle.std.proofs.Common.{◌+◌, length}
use Rattle.type_diagrams.proofs.Merging.{Merging}
use Rattle.type_diagrams.proofs.merge.merged.Given as goal

abbrev pub invariant-loop-next : goal.invariant-loop-next
invariant-loop-next g l = Merging g.P.Ord.cmp l.fn.rule l.fn.left l.fn.right l.rule l.places.items l.left l.right

abbrev pub decreases-loop-next : goal.decreases-loop-next
decreases-loop-next g l = length l.left + length l.right
