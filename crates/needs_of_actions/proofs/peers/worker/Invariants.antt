use Rattle.std.proofs.Common.{◌≡◌, drop}
use Rattle.check_words.specs.Seen.{worker_from}
use Rattle.needs_of_actions.proofs.peers.worker.Given as goal

abbrev pub invariant-loop-worker : goal.invariant-loop-worker
invariant-loop-worker l = worker_from l.number (drop l.worker-index l.workers) l.name ≡ worker_from 1 l.workers l.name
