use Rattle.std.proofs.Common.{length}
use Rattle.type_diagrams.proofs.WrittenSets.{Ranging}
use Rattle.type_diagrams.proofs.simple_type.push_ranges.Given as goal

abbrev pub invariant-loop-flip : goal.invariant-loop-flip
invariant-loop-flip l = Ranging l.first l.flips l.initial.sets.items l.sets.items l.low l.inside l.rest

abbrev pub decreases-loop-flip : goal.decreases-loop-flip
decreases-loop-flip l = length l.rest
