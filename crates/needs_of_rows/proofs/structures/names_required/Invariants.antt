use Rattle.std.proofs.Common.{take}
use Rattle.code_needs.specs.RowNeeds.{names_required}
use Rattle.pair_questions.specs.Pairs.{pairs_of}
use Rattle.needs_of_rows.specs.Finding.{Finds}
use Rattle.needs_of_rows.proofs.structures.names_required.Given as goal

abbrev pub invariant-loop-field : goal.invariant-loop-field
invariant-loop-field l = Finds (names_required (take l.field-index l.fields) (pairs_of l.pairs)) l.fn.found l.found
