use Rattle.std.proofs.Common.{◌≡◌, ◌++◌, drop, map}
use Rattle.worker_ranks.specs.inner.Vertices.{vertex_held}
use Rattle.worker_ranks.specs.inner.Turned.{close_rows, groups_held, laid}
use Rattle.worker_ranks.proofs.close.add_rows.Given as goal

abbrev pub invariant-loop-a : goal.invariant-loop-a
invariant-loop-a l =
    map (λ v. v.items) l.graph.items ++ close_rows (laid (groups_held l.groups)) l.number (map vertex_held (drop l.a-index l.group))
    ≡ map (λ v. v.items) l.initial.graph.items ++ close_rows (laid (groups_held l.groups)) l.first (map vertex_held l.group)
