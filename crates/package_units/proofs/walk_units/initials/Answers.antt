use Rattle.std.proofs.Common.{arith}
use Rattle.typed_tree.specs.Units.{initial_units}
use Rattle.typed_tree.proofs.Running.{run-more}
use Rattle.package_units.specs.Noted.{noted}
use Rattle.package_units.proofs.walk_units.initials.Goals as goal

pub loop-i-preserved : goal.loop-i-preserved
loop-i-preserved c =
    run-more noted initial_units c.args.is.now c.loop-i.i-index c.i-item.result _ _ _ (grind (arith, c.loop-i-test.true)) c.i-item.is c.loop-i.invariant c.initial.ensures
