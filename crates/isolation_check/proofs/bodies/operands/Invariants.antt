use Rattle.std.proofs.Common.{map, take}
use Rattle.typed_tree.specs.Listed.{joined}
use Rattle.isolation_check.specs.Parts.{of_body}
use Rattle.isolation_check.specs.inner.Views.{Grows}
use Rattle.isolation_check.proofs.bodies.operands.Given as goal

abbrev pub invariant-loop-e : goal.invariant-loop-e
invariant-loop-e l = Grows (joined (map of_body (take l.e-index l.es))) l.fn.found l.found
