use Rattle.std.proofs.Common.{◌≡◌, drop}
use Rattle.flow_narrowing.specs.Changes.{told}
use Rattle.flow_narrowing.proofs.meeting.told.Given as goal

abbrev pub invariant-loop-c : goal.invariant-loop-c
invariant-loop-c l = told (drop l.c-index l.changes) l.index l.or ≡ told l.changes l.index l.or
