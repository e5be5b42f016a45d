use Rattle.std.proofs.Common.{◌≡◌, ◌++◌, drop, map}
use Rattle.worker_ranks.specs.inner.Turned.{groups_held, laid}
use Rattle.worker_ranks.specs.inner.Vertices.{is_edge_by, passing, vertex_held}
use Rattle.worker_ranks.proofs.runs.add_rows.Given as goal

abbrev pub invariant-loop-a : goal.invariant-loop-a
invariant-loop-a l =
    map (λ v. v.items) l.graph.items ++ map (λ a. passing (is_edge_by l.edges a) 0 (laid (groups_held l.runs))) (map vertex_held (drop l.a-index l.run))
    ≡ map (λ v. v.items) l.initial.graph.items ++ map (λ a. passing (is_edge_by l.edges a) 0 (laid (groups_held l.runs))) (map vertex_held l.run)
