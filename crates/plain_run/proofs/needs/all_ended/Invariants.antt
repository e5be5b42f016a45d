use Rattle.std.specs.Prelude.{◌≡◌, take, true}
use Rattle.std.specs.List.{list_all}
use Rattle.op_model.specs.Strands.{has_ended}
use Rattle.plain_run.specs.Held.{common_of}
use Rattle.plain_run.proofs.needs.all_ended.Given as goal

abbrev pub invariant-loop-n : goal.invariant-loop-n
invariant-loop-n l = list_all (has_ended (common_of l.fn.common)) (take l.n-index l.fn.strands) ≡ true
