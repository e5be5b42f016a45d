use Rattle.std.proofs.Common.{map, take}
use Rattle.typed_tree.specs.Listed.{joined}
use Rattle.isolation_check.specs.Parts.{initial_parts}
use Rattle.isolation_check.specs.inner.Views.{Grows}
use Rattle.isolation_check.proofs.bodies.initials.Given as goal

abbrev pub invariant-loop-i : goal.invariant-loop-i
invariant-loop-i l = Grows (joined (map initial_parts (take l.i-index l.is))) l.fn.found l.found
