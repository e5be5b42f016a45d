use Rattle.std.proofs.Common.{◌≡◌, ◌-◌, ◌≤◌, drop}
use Rattle.check_words.specs.Actions.{may_fail}
use Rattle.needs_of_actions.proofs.events.may_fail.Given as goal

abbrev pub invariant-loop-event : goal.invariant-loop-event
invariant-loop-event l =
    record {
      few : l.seen ≤ l.event-index;
      within : l.seen ≤ l.number;
      same : may_fail l.own l.peer (l.number - l.seen) (drop l.event-index l.events) ≡ may_fail l.own l.peer l.number l.events;
    }
