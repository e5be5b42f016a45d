use Rattle.std.proofs.Common.{◌≡◌, ◌+◌, ◌≤◌, drop}
use Rattle.check_words.specs.Actions.{sent_before}
use Rattle.needs_of_actions.proofs.events.sent_before.Given as goal

abbrev pub invariant-loop-event : goal.invariant-loop-event
invariant-loop-event l =
    record {
      few : l.sent ≤ l.event-index;
      same : l.sent + sent_before l.own l.peer l.at (drop l.event-index l.events) ≡ sent_before l.own l.peer l.at l.events;
    }
