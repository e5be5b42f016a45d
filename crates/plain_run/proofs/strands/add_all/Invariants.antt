use Rattle.std.specs.Prelude.{◌≡◌, ◌++◌, take}
use Rattle.plain_run.proofs.strands.add_all.Given as goal

abbrev pub invariant-loop-n : goal.invariant-loop-n
invariant-loop-n l = l.numbers.items ≡ l.fn.numbers.items ++ take l.n-index l.fn.more
