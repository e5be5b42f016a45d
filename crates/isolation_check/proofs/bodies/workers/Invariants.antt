use Rattle.std.proofs.Common.{map, take}
use Rattle.typed_tree.specs.Listed.{joined}
use Rattle.isolation_check.specs.Parts.{worker_parts}
use Rattle.isolation_check.specs.inner.Views.{Grows}
use Rattle.isolation_check.proofs.bodies.workers.Given as goal

abbrev pub invariant-loop-w : goal.invariant-loop-w
invariant-loop-w l = Grows (joined (map worker_parts (take l.w-index l.ws))) l.fn.found l.found
