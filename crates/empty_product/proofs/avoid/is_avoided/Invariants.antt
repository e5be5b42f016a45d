use Rattle.type_diagrams.specs.Whole.{Extends}
use Rattle.empty_product.proofs.avoid.is_avoided.Given as goal

abbrev pub invariant-loop-place : goal.invariant-loop-place
invariant-loop-place l = Extends 0 l.fn.dia l.dia
