use Rattle.std.proofs.Common.{◌≡◌, ◌++◌, drop}
use Rattle.worker_ranks.specs.inner.SideBySide.{AreRuns}
use Rattle.worker_ranks.specs.inner.Turned.{groups_held, laid}
use Rattle.worker_ranks.specs.inner.Vertices.{is_edge_by, passing, vertex_held}
use Rattle.worker_ranks.proofs.runs.add_all_followed.Given as goal

abbrev pub invariant-loop-run : goal.invariant-loop-run
invariant-loop-run l =
    record {
      runs : AreRuns (groups_held (drop l.run-index l.runs));
      listed :
          l.row.items ++ passing (is_edge_by l.edges (vertex_held l.a)) l.first (laid (groups_held (drop l.run-index l.runs)))
          ≡ l.initial.row.items ++ passing (is_edge_by l.edges (vertex_held l.a)) 0 (laid (groups_held l.runs));
    }
