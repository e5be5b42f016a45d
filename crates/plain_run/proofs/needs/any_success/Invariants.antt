use Rattle.std.specs.Prelude.{◌≡◌, take, false}
use Rattle.std.specs.List.{list_any}
use Rattle.op_model.specs.Strands.{has_success}
use Rattle.plain_run.specs.Held.{common_of}
use Rattle.plain_run.proofs.needs.any_success.Given as goal

abbrev pub invariant-loop-n : goal.invariant-loop-n
invariant-loop-n l = list_any (has_success (common_of l.fn.common)) (take l.n-index l.fn.strands) ≡ false
