use Rattle.std.specs.Prelude.{◌≡◌, ◌++◌, take}
use Rattle.plain_run.specs.Held.{common_of}
use Rattle.plain_run.specs.Strands.{woken_among}
use Rattle.plain_run.proofs.strands.list_woken.Given as goal

abbrev pub invariant-loop-n : goal.invariant-loop-n
invariant-loop-n l = l.woken.items ≡ l.fn.woken.items ++ woken_among (common_of l.fn.common) (take l.n-index l.fn.numbers)
