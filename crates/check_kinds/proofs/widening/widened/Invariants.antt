use Rattle.std.proofs.Common.{◌≡◌}
use Rattle.check_kinds.proofs.WideKinds.{AreLeft}
use Rattle.check_kinds.proofs.widening.widened.Given as goal

abbrev pub invariant-loop-kind : goal.invariant-loop-kind
invariant-loop-kind g l =
    (g.T.Types.atoms l.types ≡ g.T.Types.atoms l.initial.types)
    × AreLeft g.T.Types.passes (g.T.Types.atoms l.initial.types) l.t l.at l.kind-index
