use Rattle.std.proofs.Common.{◌≡◌, ◌+◌, drop}
use Rattle.check_words.specs.Seen.{worker_from}
use Rattle.seen_names.proofs.seen.number_of.Given as goal

abbrev pub invariant-loop-worker : goal.invariant-loop-worker
invariant-loop-worker l = (l.number ≡ l.worker-index + 1) × (worker_from 1 l.workers l.name ≡ worker_from (l.worker-index + 1) (drop l.worker-index l.workers) l.name)
