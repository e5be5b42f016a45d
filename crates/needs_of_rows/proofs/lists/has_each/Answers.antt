use Rattle.type_model.specs.declared.basic.SemType.{SemType}
use Rattle.code_needs.specs.Combining.{need}
use Rattle.code_needs.specs.Needs.{PartHas}
use Rattle.needs_of_rows.proofs.Finding.{found-nothing}
use Rattle.needs_of_rows.proofs.ListNeeds.{each-more, each-whole}
use Rattle.needs_of_rows.proofs.lists.has_each.Goals as goal

pub loop-v-init : goal.loop-v-init
loop-v-init c =
    found-nothing _

pub loop-v-preserved : goal.loop-v-preserved
loop-v-preserved c =
    each-more (λ (v : SemType). need (PartHas c.args.whole.now c.args.keys.now v)) c.args.values.now c.loop-v.v-index c.v-item.result _ _ _ c.loop-v-test.true c.v-item.is c.loop-v.invariant c.ask.ensures

pub returns : goal.returns
returns c =
    each-whole (λ (v : SemType). need (PartHas c.args.whole.now c.args.keys.now v)) c.args.values.now c.loop-v.v-index _ _ c.loop-v-test.false c.loop-v.invariant
