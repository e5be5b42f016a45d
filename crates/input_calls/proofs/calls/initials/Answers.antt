use Rattle.std.proofs.Common.{arith}
use Rattle.input_calls.specs.Calls.{asked, initial_calls}
use Rattle.typed_tree.proofs.Running.{run-more}
use Rattle.input_calls.proofs.calls.initials.Goals as goal

pub loop-i-preserved : goal.loop-i-preserved
loop-i-preserved c =
    run-more asked initial_calls c.args.initials.now c.loop-i.i-index c.i-item.result c.args.before c.loop-i.found c.initial-found.result (grind (arith, c.loop-i-test.true)) c.i-item.is c.loop-i.invariant c.initial-found.ensures
