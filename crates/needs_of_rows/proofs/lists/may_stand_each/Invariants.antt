use Rattle.std.proofs.Common.{take}
use Rattle.code_needs.specs.Combining.{each}
use Rattle.code_needs.specs.RowNeeds.{may_stand}
use Rattle.needs_of_rows.specs.Finding.{Finds}
use Rattle.needs_of_rows.proofs.lists.may_stand_each.Given as goal

abbrev pub invariant-loop-t : goal.invariant-loop-t
invariant-loop-t l = Finds (each (may_stand l.immutable) (take l.t-index l.ts)) l.fn.found l.found
