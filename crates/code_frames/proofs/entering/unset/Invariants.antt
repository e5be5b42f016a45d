use Rattle.std.proofs.Common.{◌≡◌, ◌++◌, None, replicate}
use Rattle.code_frames.proofs.entering.unset.Given as goal

abbrev pub invariant-loop : goal.invariant-loop
invariant-loop l = l.slots.items ≡ l.initial.slots.items ++ replicate l.counter None
