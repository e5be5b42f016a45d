use Rattle.plain_run.specs.Held.{common_of}
use Rattle.code_steps.specs.Rings.{IsWay}
use Rattle.code_steps.proofs.stalls.follow.Given as goal

abbrev pub invariant-loop : goal.invariant-loop
invariant-loop l = IsWay (common_of l.common) l.way.items l.n
