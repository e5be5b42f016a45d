use Rattle.std.specs.Prelude.{◌≡◌, map, take}
use Rattle.plain_run.specs.Held.{strand_of}
use Rattle.plain_run.specs.Strands.{all_woken}
use Rattle.plain_run.proofs.strands.wake.Given as goal

abbrev pub invariant-loop-n : goal.invariant-loop-n
invariant-loop-n l = map strand_of l.strands ≡ all_woken (take l.n-index l.fn.numbers) (map strand_of l.fn.strands)
