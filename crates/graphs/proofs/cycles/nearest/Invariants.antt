use Rattle.std.proofs.Common.{take}
use Rattle.graphs.specs.inner.Searching.{IsNearestOf}
use Rattle.graphs.proofs.cycles.nearest.Given as goal

abbrev pub invariant-loop-number : goal.invariant-loop-number
invariant-loop-number l = IsNearestOf l.away (take l.number-index l.numbers) l.nearest
