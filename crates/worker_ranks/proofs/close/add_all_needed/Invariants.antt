use Rattle.std.proofs.Common.{◌≡◌, ◌++◌, drop}
use Rattle.worker_members.specs.Held.{kind_of}
use Rattle.worker_ranks.specs.inner.Vertices.{needs_other, passing, vertex_held}
use Rattle.worker_ranks.specs.inner.Turned.{AreGroups, groups_held, laid}
use Rattle.worker_ranks.proofs.close.add_all_needed.Given as goal

abbrev pub invariant-loop-group : goal.invariant-loop-group
invariant-loop-group l =
    record {
      of : AreGroups l.worker (groups_held (drop l.group-index l.groups));
      listed :
          l.row.items ++ passing (needs_other (kind_of l.a.kind) (vertex_held l.a)) l.first (laid (groups_held (drop l.group-index l.groups)))
          ≡ l.initial.row.items ++ passing (needs_other (kind_of l.a.kind) (vertex_held l.a)) 0 (laid (groups_held l.groups));
    }
