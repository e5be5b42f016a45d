use Rattle.std.proofs.Common.{take}
use Rattle.std.specs.Prelude.{option_copied}
use Rattle.detail_questions.specs.inner.Cells.{IsTypeBy, IsValueAt, ValuesBelow}
use Rattle.detail_questions.proofs.cells.values_at.Given as goal

abbrev pub invariant-loop-pair : goal.invariant-loop-pair
invariant-loop-pair l = IsTypeBy (λ env. IsValueAt (take l.pair-index l.pairs) env (option_copied l.text)) (ValuesBelow (take l.pair-index l.pairs)) l.values
