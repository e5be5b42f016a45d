use Rattle.std.proofs.Common.{◌≡◌, ◌++◌, map, take}
use Rattle.worker_pairing.specs.Marks.{named_member}
use Rattle.worker_members.specs.Held.{member_held}
use Rattle.worker_members.proofs.gathering.add_named.Given as goal

abbrev pub invariant-loop-w : goal.invariant-loop-w
invariant-loop-w l = map member_held l.members.items ≡ map member_held l.initial.members.items ++ map named_member (take l.w-index l.workers)
