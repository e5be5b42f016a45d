use Rattle.std.proofs.Common.{map}
use Rattle.graphs.specs.inner.Searching.{IsTurned}
use Rattle.graphs.proofs.search.reversed.Given as goal

abbrev pub invariant-loop-number : goal.invariant-loop-number
invariant-loop-number l = IsTurned l.number (map (λ v. v.items) l.next) (map (λ v. v.items) l.back.items)
