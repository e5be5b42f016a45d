use Rattle.std.proofs.Common.{◌≡◌, ◌+◌, ◌≤◌, drop}
use Rattle.worker_pairing.specs.Events.{count, is_message}
use Rattle.worker_faults.specs.Routes.{kinds_said}
use Rattle.worker_faults.proofs.counting.count_messages.Given as goal

abbrev pub invariant-loop-said : goal.invariant-loop-said
invariant-loop-said l =
    record {
      few : l.messages ≤ l.said-index;
      same : l.messages + count is_message (kinds_said (drop l.said-index l.sayings)) ≡ count is_message (kinds_said l.sayings);
    }
