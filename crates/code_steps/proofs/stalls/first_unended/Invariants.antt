use Rattle.std.proofs.Common.{◌≡◌, drop}
use Rattle.machine_model.specs.Outcomes.{first_unended}
use Rattle.plain_run.specs.Held.{common_of}
use Rattle.code_steps.proofs.stalls.first_unended.Given as goal

abbrev pub invariant-loop-n : goal.invariant-loop-n
invariant-loop-n l = first_unended (common_of l.common) l.strands ≡ first_unended (common_of l.common) (drop l.n-index l.strands)
