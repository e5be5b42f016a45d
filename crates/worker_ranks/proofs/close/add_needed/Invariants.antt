use Rattle.std.proofs.Common.{◌≡◌, ◌++◌, drop, map}
use Rattle.worker_members.specs.Held.{kind_of}
use Rattle.worker_ranks.specs.inner.Vertices.{needs_other, passing, vertex_held}
use Rattle.worker_ranks.proofs.close.add_needed.Given as goal

abbrev pub invariant-loop-b : goal.invariant-loop-b
invariant-loop-b l =
    l.row.items ++ passing (needs_other (kind_of l.a.kind) (vertex_held l.a)) l.number (map vertex_held (drop l.b-index l.group))
    ≡ l.initial.row.items ++ passing (needs_other (kind_of l.a.kind) (vertex_held l.a)) l.first (map vertex_held l.group)
