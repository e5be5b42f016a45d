use Rattle.type_model.specs.declared.basic.SemType.{SemType}
use Rattle.code_needs.specs.Combining.{◌&◌, need}
use Rattle.code_needs.specs.Needs.{Below}
use Rattle.needs_of_rows.proofs.Finding.{found-nothing}
use Rattle.needs_of_rows.proofs.ListNeeds.{zip-more, zip-whole}
use Rattle.needs_of_rows.proofs.lists.same_pairs.Goals as goal

pub loop-k-init : goal.loop-k-init
loop-k-init c =
    found-nothing _

pub loop-k-preserved : goal.loop-k-preserved
loop-k-preserved c =
    zip-more (λ (s t : SemType). need (Below s t) & need (Below t s)) c.args.ss.now c.args.ts.now c.loop-k.k c.index-ss-k.result c.index-ts-k.result _ _ _ c.requires c.loop-k-test.true c.index-ss-k.is c.index-ts-k.is c.loop-k.invariant c.same.ensures

pub returns : goal.returns
returns c =
    zip-whole (λ (s t : SemType). need (Below s t) & need (Below t s)) c.args.ss.now c.args.ts.now c.loop-k.k _ _ c.requires c.loop-k-test.false c.loop-k.invariant
