use Rattle.std.proofs.Common.{arith}
use Rattle.declared_reads.specs.Declared.{IsDeclaredInitial}
use Rattle.bare_packages.proofs.Changed.{change-more}
use Rattle.bare_packages.proofs.packages.initials.Goals as goal

pub loop-i-preserved : goal.loop-i-preserved
loop-i-preserved c =
    change-more IsDeclaredInitial c.args.xs.now c.loop-i.xs c.loop-i.i-index c.i-item.result c.initial.new.i (omega (arith, c.loop-i.invariant.0.0)) c.loop-i.invariant.0.0 c.loop-i.invariant.0.1 c.loop-i.invariant.1 c.in_ok-initial.ensures
