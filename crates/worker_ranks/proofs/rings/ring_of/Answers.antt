use Rattle.worker_ranks.specs.inner.Turned.{groups_held, laid}
use Rattle.worker_ranks.proofs.Closer.{on-wider}
use Rattle.worker_ranks.proofs.Ringed.{ring-so}
use Rattle.worker_ranks.proofs.rings.ring_of.Goals as goal

pub ring_at-requires-clause-cycle : goal.ring_at-requires-clause-cycle
ring_at-requires-clause-cycle c = on-wider (laid (groups_held c.args.runs.now)) c.in_ok-first.first c.in_ok-first.ensures.1

pub returns : goal.returns
returns c = ring-so (laid (groups_held c.args.runs.now)) c.in_ok-first.first c.ring_at.result c.in_ok-first.ensures.0 c.ring_at.ensures
