use Rattle.std.specs.Prelude.{◌≡◌, drop, map}
use Rattle.op_model.specs.CallRows.{strands_made}
use Rattle.plain_run.specs.Effects.{spawned_of}
use Rattle.plain_run.specs.Held.{common_of}
use Rattle.plain_calls.proofs.workers.make_strands.Given as goal

abbrev pub invariant-loop-s : goal.invariant-loop-s
invariant-loop-s l = strands_made (map spawned_of (drop l.s-index l.fn.spawned)) (common_of l.common) ≡ strands_made (map spawned_of l.fn.spawned) (common_of l.fn.common)
