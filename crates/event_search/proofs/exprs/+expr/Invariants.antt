use Rattle.std.proofs.Common.{map, take}
use Rattle.typed_tree.specs.Listed.{joined}
use Rattle.worker_pairing.specs.Marks.{expr_marks}
use Rattle.event_search.specs.inner.Walking.{Goes}
use Rattle.event_search.proofs.exprs.+expr.Given as goal

abbrev pub invariant-exprs-loop-e : goal.invariant-exprs-loop-e
invariant-exprs-loop-e l = Goes l.initial' (joined (map expr_marks (take l.e-index l.es))) l.fn.search l.search
