use Rattle.std.proofs.Common.{◌≡◌, drop}
use Rattle.typed_tree.specs.declared.expr.TypedExpr.{TypedExpr}
use Rattle.check_words.specs.Words.{sem}
use Rattle.check_calls.proofs.PickedMethods.{GoesOn}
use Rattle.check_calls.proofs.picking.pick_among.Given as goal

abbrev pub invariant-loop-call : goal.invariant-loop-call
invariant-loop-call g l =
    (g.T.Types.atoms l.types ≡ g.T.Types.atoms l.fn.types)
    × ((e : TypedExpr) → sem e ≡ l.fn.s
    → GoesOn g.T.Types.passes l.fn.sought.at l.fn.sought.name.now e (g.T.Types.atoms l.fn.types) (g.T.Types.atoms l.types) (drop l.call-index l.fn.sought.calls.now) l.fn.sought.calls.now)
