use Rattle.std.proofs.Common.{◌≡◌, replicate, map, []}
use Rattle.graphs.proofs.search.no_edges.Given as goal

abbrev pub invariant-loop : goal.invariant-loop
invariant-loop l = map (λ v. v.items) l.back.items ≡ replicate l.counter []
