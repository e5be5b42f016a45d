use Rattle.std.proofs.Common.{◌≡◌, length}
use Rattle.flow_narrowing.specs.Flows.{AreJoined, VariablesBelow}
use Rattle.flow_narrowing.proofs.flow.all_joined.Given as goal

abbrev pub invariant-loop-i : goal.invariant-loop-i
invariant-loop-i g l =
    (g.T.Types.atoms l.types ≡ g.T.Types.atoms l.initial.types) × VariablesBelow (length (g.T.Types.atoms l.initial.types)) l.variables.items
    × AreJoined (g.T.Types.atoms l.initial.types) l.which l.i l.first l.second l.variables.items
