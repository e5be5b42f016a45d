use Rattle.std.proofs.Common.{◌≡◌, ◌++◌, drop, map}
use Rattle.worker_pairing.specs.Marks.{in_turn}
use Rattle.worker_members.specs.Held.{member_held, numbered_held}
use Rattle.worker_members.proofs.text.add_in_turn.Given as goal

abbrev pub invariant-loop-member : goal.invariant-loop-member
invariant-loop-member l =
    map numbered_held l.text.items ++ in_turn l.worker (map member_held (drop l.member-index l.named))
    ≡ map numbered_held l.initial.text.items ++ in_turn 1 (map member_held l.named)
