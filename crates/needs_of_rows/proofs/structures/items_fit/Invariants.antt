use Rattle.std.proofs.Common.{take}
use Rattle.code_needs.specs.RowNeeds.{items_fit}
use Rattle.needs_of_rows.specs.Finding.{Finds}
use Rattle.needs_of_rows.proofs.structures.items_fit.Given as goal

abbrev pub invariant-loop-k : goal.invariant-loop-k
invariant-loop-k l = Finds (items_fit (take l.k l.items) 0 l.fixed l.rest) l.fn.found l.found
