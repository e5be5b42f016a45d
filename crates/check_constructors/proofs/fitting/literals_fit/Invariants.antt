use Rattle.std.proofs.Common.{map}
use Rattle.expr_needs.specs.ExprTable.{read_expr}
use Rattle.check_constructors.proofs.FittingChoices.{FitBelow}
use Rattle.check_constructors.proofs.fitting.literals_fit.Given as goal

abbrev pub invariant-loop-place : goal.invariant-loop-place
invariant-loop-place l = FitBelow l.defs l.fixed l.rest l.place (map (λ i. i.literal) (map read_expr l.items))
