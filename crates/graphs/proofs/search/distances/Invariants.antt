use Rattle.std.proofs.Common.{map, List, ℕ}
use Rattle.graphs.specs.Distances.{IsReversed}
use Rattle.graphs.specs.inner.Searching.{IsLevel}
use Rattle.graphs.proofs.search.distances.Given as goal

abbrev pub invariant-loop-level : goal.invariant-loop-level
invariant-loop-level l = (next : List (List ℕ)) → IsReversed next (map (λ v. v.items) l.back) → IsLevel next l.target l.level l.away.items l.edge.items
