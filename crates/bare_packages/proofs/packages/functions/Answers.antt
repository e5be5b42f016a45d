use Rattle.std.proofs.Common.{arith}
use Rattle.declared_reads.specs.Declared.{IsDeclaredFunction}
use Rattle.bare_packages.proofs.Changed.{change-more}
use Rattle.bare_packages.proofs.packages.functions.Goals as goal

pub loop-f-preserved : goal.loop-f-preserved
loop-f-preserved c =
    change-more IsDeclaredFunction c.args.fs.now c.loop-f.fs c.loop-f.f-index c.f-item.result c.function.new.f (omega (arith, c.loop-f.invariant.0.0)) c.loop-f.invariant.0.0 c.loop-f.invariant.0.1 c.loop-f.invariant.1 c.in_ok-function.ensures
