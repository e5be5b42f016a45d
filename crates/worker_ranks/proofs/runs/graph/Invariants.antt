use Rattle.std.proofs.Common.{◌≡◌, ◌++◌, drop, map}
use Rattle.worker_ranks.specs.inner.Turned.{groups_held, laid}
use Rattle.worker_ranks.specs.inner.Vertices.{graph_by, is_edge_by, passing}
use Rattle.worker_ranks.proofs.runs.graph.Given as goal

abbrev pub invariant-loop-run : goal.invariant-loop-run
invariant-loop-run l =
    map (λ v. v.items) l.graph.items ++ map (λ a. passing (is_edge_by l.edges a) 0 (laid (groups_held l.runs))) (laid (groups_held (drop l.run-index l.runs)))
    ≡ graph_by (is_edge_by l.edges) (laid (groups_held l.runs))
