use Rattle.std.proofs.Common.{◌≡◌, false, replicate}
use Rattle.isolation_check.proofs.checking.unentered.Given as goal

abbrev pub invariant-loop : goal.invariant-loop
invariant-loop l = l.entered.items ≡ replicate l.counter false
