use Rattle.std.proofs.Common.{take}
use Rattle.code_needs.specs.Combining.{each}
use Rattle.code_needs.specs.RowNeeds.{may_stand}
use Rattle.pair_questions.specs.Pairs.{pairs_of}
use Rattle.needs_of_rows.specs.Finding.{Finds}
use Rattle.needs_of_rows.proofs.structures.values_stand.Given as goal

abbrev pub invariant-loop-pair : goal.invariant-loop-pair
invariant-loop-pair l = Finds (each (λ p. may_stand l.immutable p.1) (take l.pair-index (pairs_of l.pairs))) l.fn.found l.found
