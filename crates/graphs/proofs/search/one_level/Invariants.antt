use Rattle.std.proofs.Common.{take, map, []}
use Rattle.graphs.specs.inner.Searching.{AreNoted, IsBefore}
use Rattle.graphs.proofs.search.one_level.Given as goal

abbrev pub invariant-loop-number : goal.invariant-loop-number
invariant-loop-number l = AreNoted (IsBefore (map (λ v. v.items) l.back) (take l.number-index l.edge)) l.level l.initial.away.items [] l.away.items l.found.items
