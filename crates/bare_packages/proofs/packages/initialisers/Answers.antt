use Rattle.std.proofs.Common.{arith}
use Rattle.declared_reads.specs.Declared.{IsDeclaredInitialiser}
use Rattle.bare_packages.proofs.Changed.{change-more}
use Rattle.bare_packages.proofs.packages.initialisers.Goals as goal

pub loop-i-preserved : goal.loop-i-preserved
loop-i-preserved c =
    change-more IsDeclaredInitialiser c.args.xs.now c.loop-i.xs c.loop-i.i-index c.i-item.result c.initialiser.new.i (omega (arith, c.loop-i.invariant.0.0)) c.loop-i.invariant.0.0 c.loop-i.invariant.0.1 c.loop-i.invariant.1 c.in_ok-initialiser.ensures
