use Rattle.std.proofs.Common.{◌≡◌, None, replicate}
use Rattle.code_steps.proofs.starting.no_values.Given as goal

abbrev pub invariant-loop : goal.invariant-loop
invariant-loop l = l.variables.items ≡ replicate l.counter None
