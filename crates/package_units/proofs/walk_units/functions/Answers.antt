use Rattle.std.proofs.Common.{arith}
use Rattle.typed_tree.specs.Units.{function_units}
use Rattle.typed_tree.proofs.Running.{run-more}
use Rattle.package_units.specs.Noted.{noted}
use Rattle.package_units.proofs.walk_units.functions.Goals as goal

pub loop-f-preserved : goal.loop-f-preserved
loop-f-preserved c =
    run-more noted function_units c.args.fs.now c.loop-f.f-index c.f-item.result _ _ _ (grind (arith, c.loop-f-test.true)) c.f-item.is c.loop-f.invariant c.function.ensures
