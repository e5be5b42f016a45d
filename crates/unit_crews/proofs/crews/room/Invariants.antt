use Rattle.std.proofs.Common.{◌≡◌, None, replicate}
use Rattle.unit_crews.proofs.crews.room.Given as goal

abbrev pub invariant-loop : goal.invariant-loop
invariant-loop l = l.counts.items ≡ replicate l.counter None
