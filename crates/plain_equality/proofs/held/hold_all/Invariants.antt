use Rattle.plain_run.specs.Held.{heap_of}
use Rattle.plain_equality.proofs.Holding.{AreHeldSoFar}
use Rattle.plain_equality.proofs.held.hold_all.Given as goal

abbrev pub invariant-loop-p : goal.invariant-loop-p
invariant-loop-p l = AreHeldSoFar (heap_of l.heap) l.pairs l.fn.held.items l.p-index l.held.items
