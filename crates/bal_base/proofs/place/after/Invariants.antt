use Rattle.std.proofs.Common.{◌≡◌}
use Rattle.bal_base.specs.Place.{line_after, column_after}
use Rattle.bal_base.proofs.place.after.Given as goal

abbrev pub invariant-loop-c : goal.invariant-loop-c
invariant-loop-c l = record { line : l.line ≡ line_after l.yielded; column : l.column ≡ column_after l.yielded }
