use Rattle.std.proofs.Common.{◌≤◌, ◌-◌}
use Rattle.flow_narrowing.proofs.Undoing.{IsTaking}
use Rattle.flow_narrowing.proofs.changes.take_all_back.Given as goal

abbrev pub invariant-loop-done : goal.invariant-loop-done
invariant-loop-done l =
    (l.mark ≤ l._done) × IsTaking (l._done - l.mark) l.initial.log.items l.initial.variables.items l.initial.back.items l.log.items l.variables.items l.back.items
