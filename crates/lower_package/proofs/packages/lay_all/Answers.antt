use Rattle.std.proofs.Common.{arith}
use Rattle.lower_package.proofs.UnitsTurning.{laid-next}
use Rattle.lower_package.proofs.packages.lay_all.Goals as goal

pub loop-u-preserved : goal.loop-u-preserved
loop-u-preserved c =
    laid-next c.args.us.now c.loop-u.u-index c.u-item.result _ _ _ _ _ _ (grind (arith, c.loop-u-test.true)) c.u-item.is c.in_ok-push.ensures.items c.loop-u.invariant c.in_ok-lay.ensures.made c.in_ok-lay.ensures.tree c.in_ok-lay.ensures.first
