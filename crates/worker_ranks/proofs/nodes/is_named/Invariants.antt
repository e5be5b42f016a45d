use Rattle.std.proofs.Common.{◌≡◌, drop}
use Rattle.operations.specs.Talk.{workers_in}
use Rattle.worker_ranks.specs.inner.Vertices.{is_among}
use Rattle.worker_ranks.proofs.nodes.is_named.Given as goal

abbrev pub invariant-loop-name : goal.invariant-loop-name
invariant-loop-name l = is_among (workers_in (drop l.name-index l.names)) l.worker ≡ is_among (workers_in l.names) l.worker
