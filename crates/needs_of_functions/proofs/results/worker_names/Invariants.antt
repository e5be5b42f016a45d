use Rattle.std.proofs.Common.{◌≡◌, map, take}
use Rattle.needs_of_functions.proofs.results.worker_names.Given as goal

abbrev pub invariant-loop-worker : goal.invariant-loop-worker
invariant-loop-worker l = l.names.items ≡ map (λ w. w.name.name) (take l.worker-index l.workers)
