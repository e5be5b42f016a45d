use Rattle.type_model.specs.declared.basic.SemType.{SemType}
use Rattle.code_needs.specs.Combining.{◌&◌}
use Rattle.code_needs.specs.RowNeeds.{within}
use Rattle.code_needs.specs.declared.kind.Kind.TheVariants.{ImmutableData, Strings}
use Rattle.pair_questions.specs.Pairs.{pair_of}
use Rattle.needs_of_rows.proofs.Finding.{found-nothing}
use Rattle.needs_of_rows.proofs.ListNeeds.{mapped-more, mapped-whole}
use Rattle.needs_of_rows.proofs.structures.details.Goals as goal

pub loop-pair-init : goal.loop-pair-init
loop-pair-init c =
    found-nothing _

pub loop-pair-preserved : goal.loop-pair-preserved
loop-pair-preserved c =
    mapped-more pair_of (λ (p : SemType × SemType). within p.0 Strings & within p.1 ImmutableData) c.args.pairs.now c.loop-pair.pair-index c.pair-item.result _ _ _ c.loop-pair-test.true c.pair-item.is c.loop-pair.invariant c.both_within.ensures

pub returns : goal.returns
returns c =
    mapped-whole pair_of (λ (p : SemType × SemType). within p.0 Strings & within p.1 ImmutableData) c.args.pairs.now c.loop-pair.pair-index _ _ c.loop-pair-test.false c.loop-pair.invariant
