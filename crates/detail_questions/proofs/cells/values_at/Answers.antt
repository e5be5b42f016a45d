use Rattle.std.proofs.Common.{List, subst}
use Rattle.std.specs.Prelude.{option_copied}
use Rattle.std.proofs.lemmas.List.{take_all}
use Rattle.pair_questions.specs.declared.pair.Pair.{Pair}
use Rattle.detail_questions.specs.inner.Cells.{IsTypeBy, IsValueAt, ValuesBelow}
use Rattle.detail_questions.proofs.CellTypes.{values-more}
use Rattle.detail_questions.proofs.cells.values_at.Goals as goal

pub loop-pair-preserved : goal.loop-pair-preserved
loop-pair-preserved c =
    values-more (option_copied c.args.text) c.args.pairs.now c.loop-pair.pair-index c.pair-item.result c.loop-pair-test.true c.pair-item.is c.loop-pair.values c.in_ok-values.values c.loop-pair.invariant c.in_ok-values.ensures

pub returns : goal.returns
returns c =
    subst (λ (ps : List Pair). IsTypeBy (λ env. IsValueAt ps env (option_copied c.args.text)) (ValuesBelow ps) c.loop-pair.values) (take_all c.loop-pair.pair-index c.args.pairs.now c.loop-pair-test.false) c.loop-pair.invariant
