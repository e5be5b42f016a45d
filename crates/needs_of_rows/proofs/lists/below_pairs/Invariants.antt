use Rattle.std.proofs.Common.{take}
use Rattle.code_needs.specs.RowNeeds.{below_each}
use Rattle.needs_of_rows.specs.Finding.{Finds}
use Rattle.needs_of_rows.proofs.lists.below_pairs.Given as goal

abbrev pub invariant-loop-k : goal.invariant-loop-k
invariant-loop-k l = Finds (below_each (take l.k l.ss) (take l.k l.ts)) l.fn.found l.found
