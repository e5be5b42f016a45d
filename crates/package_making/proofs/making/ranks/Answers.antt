use Rattle.std.proofs.Common.{◌∙◌}
use Rattle.package_making.proofs.Grouped.{ranks-more}
use Rattle.package_making.proofs.making.ranks.Goals as goal

pub loop-number-preserved : goal.loop-number-preserved
loop-number-preserved c =
    c.in_ok-push.ensures.items ∙ ranks-more c.args.order.now c.args.numbers.now c.loop-number.number-index c.loop-number.ranks.items c.rank.result c.loop-number-test.true c.loop-number.invariant c.rank.ensures
