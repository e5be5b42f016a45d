use Rattle.std.proofs.Common.{◌≡◌, false, take}
use Rattle.std.specs.List.{list_any}
use Rattle.plain_run.specs.Held.{heap_of}
use Rattle.plain_copies.specs.Copied.{reaches_itself}
use Rattle.plain_copies.proofs.reaching.has_cycle.Given as goal

abbrev pub invariant-loop-n : goal.invariant-loop-n
invariant-loop-n l = list_any (reaches_itself (heap_of l.fn.heap)) (take l.n-index l.fn.numbers) ≡ false
