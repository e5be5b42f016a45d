use Rattle.std.proofs.Common.{◌≡◌, drop, length}
use Rattle.check_words.specs.Stands.{FlowBelow}
use Rattle.flow_joins.proofs.Meeting.{Leads}
use Rattle.flow_joins.proofs.joins.join_all.Given as goal

abbrev pub invariant-loop-other : goal.invariant-loop-other
invariant-loop-other g l =
    (g.T.Types.atoms l.types ≡ g.T.Types.atoms l.initial.types) × FlowBelow (length (g.T.Types.atoms l.initial.types)) l.joined
    × Leads (g.T.Types.atoms l.initial.types) l.first l.others (drop l.other-index l.others) l.joined
