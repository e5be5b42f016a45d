use Rattle.std.proofs.Common.{◌≡◌}
use Rattle.worker_ranks.proofs.Placed.{NotYet}
use Rattle.worker_ranks.proofs.order.place_of.Given as goal

abbrev pub invariant-loop-other : goal.invariant-loop-other
invariant-loop-other l = (l.place ≡ l.other-index) × NotYet l.order l.number l.other-index
