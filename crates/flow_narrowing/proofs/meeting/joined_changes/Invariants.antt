use Rattle.std.proofs.Common.{◌≡◌, All, length, take}
use Rattle.flow_narrowing.specs.Meetings.{ChangeBelow, ChangeJoined}
use Rattle.flow_narrowing.proofs.MetWays.{Covers}
use Rattle.flow_narrowing.proofs.meeting.joined_changes.Given as goal

abbrev pub invariant-loop-c : goal.invariant-loop-c
invariant-loop-c g l =
    (g.T.Types.atoms l.types ≡ g.T.Types.atoms l.fn.types)
    × All (ChangeJoined (g.T.Types.atoms l.fn.types) l.variables l.ends.first.changes.items l.ends.second.changes.items) l.joined.items
    × Covers l.joined.items (take l.c-index l.ends.first.changes.items) × All (ChangeBelow (length (g.T.Types.atoms l.fn.types))) l.joined.items

abbrev pub invariant-loop-c-2 : goal.invariant-loop-c-2
invariant-loop-c-2 g l =
    (g.T.Types.atoms l.types ≡ g.T.Types.atoms l.fn.types)
    × All (ChangeJoined (g.T.Types.atoms l.fn.types) l.variables l.ends.first.changes.items l.ends.second.changes.items) l.joined.items
    × Covers l.joined.items l.ends.first.changes.items × Covers l.joined.items (take l.c-index l.ends.second.changes.items)
    × All (ChangeBelow (length (g.T.Types.atoms l.fn.types))) l.joined.items
