use Rattle.std.proofs.Common.{◌≡◌, ◌+◌, ◌≤◌, drop}
use Rattle.worker_pairing.specs.Events.{count, receives_from}
use Rattle.worker_faults.specs.Routes.{kinds_said}
use Rattle.worker_faults.proofs.counting.count_receives.Given as goal

abbrev pub invariant-loop-said : goal.invariant-loop-said
invariant-loop-said l =
    record {
      few : l.received ≤ l.said-index;
      same : l.received + count (receives_from l.from) (kinds_said (drop l.said-index l.sayings)) ≡ count (receives_from l.from) (kinds_said l.sayings);
    }
