use Rattle.std.proofs.Common.{◌≡◌, replicate, None}
use Rattle.graphs.proofs.search.none.Given as goal

abbrev pub invariant-loop : goal.invariant-loop
invariant-loop l = l.away.items ≡ replicate l.counter None
