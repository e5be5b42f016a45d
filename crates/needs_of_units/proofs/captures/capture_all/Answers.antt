use Rattle.std.proofs.Common.{arith}
use Rattle.check_work.specs.Views.{unit_of}
use Rattle.needs_of_units.proofs.Capturing.{captured-next, captured-none}
use Rattle.needs_of_units.proofs.captures.capture_all.Goals as goal

pub loop-c-init : goal.loop-c-init
loop-c-init c = captured-none c.args.in_worker (unit_of c.args.unit.now)

pub loop-c-preserved : goal.loop-c-preserved
loop-c-preserved c =
    captured-next c.args.in_worker c.args.cs.now c.loop-c.c-index c.c-item.result (unit_of c.args.unit.now) _ _ (omega arith) c.c-item.is c.loop-c.invariant
    c.in_ok-capture_into.ensures
