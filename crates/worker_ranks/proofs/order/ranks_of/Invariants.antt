use Rattle.worker_ranks.specs.inner.Vertices.{AreRanks}
use Rattle.worker_ranks.proofs.order.ranks_of.Given as goal

abbrev pub invariant-loop-number : goal.invariant-loop-number
invariant-loop-number l = AreRanks l.order l.ranks.items l.number
