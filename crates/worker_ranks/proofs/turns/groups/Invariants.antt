use Rattle.std.proofs.Common.{◌≡◌, ◌++◌, drop, map}
use Rattle.worker_members.specs.Held.{member_held}
use Rattle.worker_ranks.specs.inner.Turned.{groups_held, turned_from}
use Rattle.worker_ranks.proofs.turns.groups.Given as goal

abbrev pub invariant-loop-member : goal.invariant-loop-member
invariant-loop-member l =
    groups_held l.groups.items ++ turned_from (map member_held l.workers) l.worker (map member_held (drop l.member-index l.workers))
    ≡ turned_from (map member_held l.workers) 0 (map member_held l.workers)
