use Rattle.std.proofs.Common.{map, take}
use Rattle.typed_tree.specs.Listed.{joined}
use Rattle.isolation_check.specs.Parts.{expr_parts}
use Rattle.isolation_check.specs.inner.Views.{Grows}
use Rattle.isolation_check.proofs.parts.+expr.Given as goal

abbrev pub invariant-exprs-loop-e : goal.invariant-exprs-loop-e
invariant-exprs-loop-e l = Grows (joined (map (λ e. expr_parts e l.within) (take l.e-index l.es))) l.fn.found l.found
