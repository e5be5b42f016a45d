use Rattle.std.proofs.Common.{take}
use Rattle.code_needs.specs.Combining.{each, need}
use Rattle.code_needs.specs.Needs.{PartHas}
use Rattle.needs_of_rows.specs.Finding.{Finds}
use Rattle.needs_of_rows.proofs.lists.has_each.Given as goal

abbrev pub invariant-loop-v : goal.invariant-loop-v
invariant-loop-v l = Finds (each (λ v. need (PartHas l.whole l.keys v)) (take l.v-index l.values)) l.fn.found l.found
