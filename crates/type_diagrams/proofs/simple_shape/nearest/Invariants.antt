use Rattle.std.proofs.Common.{length}
use Rattle.type_diagrams.proofs.Nearest.{Nearing}
use Rattle.type_diagrams.proofs.simple_shape.nearest.Given as goal

abbrev pub invariant-loop-flip : goal.invariant-loop-flip
invariant-loop-flip l = Nearing l.first l.flips l.low l.inside l.rest

abbrev pub decreases-loop-flip : goal.decreases-loop-flip
decreases-loop-flip l = length l.rest
