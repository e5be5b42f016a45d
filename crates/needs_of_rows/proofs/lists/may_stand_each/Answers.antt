use Rattle.code_needs.specs.RowNeeds.{may_stand}
use Rattle.needs_of_rows.proofs.Finding.{found-nothing}
use Rattle.needs_of_rows.proofs.ListNeeds.{each-more, each-whole}
use Rattle.needs_of_rows.proofs.lists.may_stand_each.Goals as goal

pub loop-t-init : goal.loop-t-init
loop-t-init c =
    found-nothing _

pub loop-t-preserved : goal.loop-t-preserved
loop-t-preserved c =
    each-more (may_stand c.args.immutable) c.args.ts.now c.loop-t.t-index c.t-item.result _ _ _ c.loop-t-test.true c.t-item.is c.loop-t.invariant c.may_stand.ensures

pub returns : goal.returns
returns c =
    each-whole (may_stand c.args.immutable) c.args.ts.now c.loop-t.t-index _ _ c.loop-t-test.false c.loop-t.invariant
