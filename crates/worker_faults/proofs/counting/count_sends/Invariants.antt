use Rattle.std.proofs.Common.{◌≡◌, ◌+◌, ◌≤◌, drop}
use Rattle.worker_pairing.specs.Events.{count, sends_to}
use Rattle.worker_faults.specs.Routes.{kinds_said}
use Rattle.worker_faults.proofs.counting.count_sends.Given as goal

abbrev pub invariant-loop-said : goal.invariant-loop-said
invariant-loop-said l =
    record {
      few : l.sent ≤ l.said-index;
      same : l.sent + count (sends_to l.to) (kinds_said (drop l.said-index l.sayings)) ≡ count (sends_to l.to) (kinds_said l.sayings);
    }
