use Rattle.std.proofs.Common.{◌≡◌, ◌++◌, drop, map}
use Rattle.worker_members.specs.Held.{member_held, numbered_held}
use Rattle.worker_ranks.specs.inner.Vertices.{vertex_held, vertex_of}
use Rattle.worker_ranks.proofs.nodes.nodes.Given as goal

abbrev pub invariant-loop-event : goal.invariant-loop-event
invariant-loop-event l =
    map vertex_held l.nodes.items ++ map (vertex_of (map member_held l.workers)) (map numbered_held (drop l.event-index l.events))
    ≡ map (vertex_of (map member_held l.workers)) (map numbered_held l.events)
