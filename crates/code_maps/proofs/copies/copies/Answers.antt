use Rattle.std.proofs.Common.{arith}
use Rattle.code_maps.proofs.Copying.{copied-more}
use Rattle.code_maps.proofs.copies.copies.Goals as goal

pub loop-e-preserved : goal.loop-e-preserved
loop-e-preserved c =
    copied-more c.args.entries.now c.loop-e.e-index c.e-item.result _ _ _ (grind (arith, c.loop-e-test.true)) c.e-item.is c.in_ok-push.ensures.items c.loop-e.invariant c.in_ok-copy.ensures
