use Rattle.std.proofs.Common.{take}
use Rattle.code_needs.specs.Combining.{each, need}
use Rattle.code_needs.specs.Needs.{FitsFields}
use Rattle.pair_questions.specs.Pairs.{pairs_of}
use Rattle.needs_of_rows.specs.Finding.{Finds}
use Rattle.needs_of_rows.proofs.structures.pairs_fit.Given as goal

abbrev pub invariant-loop-pair : goal.invariant-loop-pair
invariant-loop-pair l = Finds (each (λ p. need (FitsFields l.fields l.rest p)) (take l.pair-index (pairs_of l.pairs))) l.fn.found l.found
