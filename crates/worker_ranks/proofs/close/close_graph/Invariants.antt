use Rattle.std.proofs.Common.{◌≡◌, ◌++◌, drop, map}
use Rattle.worker_ranks.specs.inner.Turned.{close_rows, groups_held, laid}
use Rattle.worker_ranks.proofs.close.close_graph.Given as goal

abbrev pub invariant-loop-group : goal.invariant-loop-group
invariant-loop-group l =
    map (λ v. v.items) l.graph.items ++ close_rows (laid (groups_held l.groups)) l.first (laid (groups_held (drop l.group-index l.groups)))
    ≡ close_rows (laid (groups_held l.groups)) 0 (laid (groups_held l.groups))
