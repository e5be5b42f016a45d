use Rattle.std.proofs.Common.{map, take}
use Rattle.typed_tree.specs.Listed.{joined}
use Rattle.worker_pairing.specs.Marks.{expr_marks}
use Rattle.worker_members.specs.inner.Hearing.{Grows}
use Rattle.worker_members.proofs.exprs.+expr.Given as goal

abbrev pub invariant-exprs-loop-e : goal.invariant-exprs-loop-e
invariant-exprs-loop-e l = Grows l.spot (joined (map expr_marks (take l.e-index l.es))) l.fn.heard l.heard
