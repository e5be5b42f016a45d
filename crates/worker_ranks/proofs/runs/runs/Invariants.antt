use Rattle.std.proofs.Common.{◌≡◌, ◌++◌, drop, map}
use Rattle.worker_ranks.specs.inner.SideBySide.{AreRuns}
use Rattle.worker_ranks.specs.inner.Turned.{groups_held, laid}
use Rattle.worker_ranks.specs.inner.Vertices.{vertex_held}
use Rattle.worker_ranks.proofs.runs.runs.Given as goal

abbrev pub invariant-loop-node : goal.invariant-loop-node
invariant-loop-node l = AreRuns (groups_held l.runs.items) × (laid (groups_held l.runs.items) ++ map vertex_held (drop l.node-index l.nodes) ≡ map vertex_held l.nodes)
