use Rattle.std.proofs.Common.{◌≡◌, ◌++◌, drop, map}
use Rattle.worker_ranks.specs.inner.Vertices.{is_edge_by, passing, vertex_held}
use Rattle.worker_ranks.proofs.runs.add_followed.Given as goal

abbrev pub invariant-loop-b : goal.invariant-loop-b
invariant-loop-b l =
    l.row.items ++ passing (is_edge_by l.edges (vertex_held l.a)) l.number (map vertex_held (drop l.b-index l.run))
    ≡ l.initial.row.items ++ passing (is_edge_by l.edges (vertex_held l.a)) l.first (map vertex_held l.run)
