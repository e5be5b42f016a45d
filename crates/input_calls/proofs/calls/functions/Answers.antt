use Rattle.std.proofs.Common.{arith}
use Rattle.input_calls.specs.Calls.{asked, function_calls}
use Rattle.typed_tree.proofs.Running.{run-more}
use Rattle.input_calls.proofs.calls.functions.Goals as goal

pub loop-f-preserved : goal.loop-f-preserved
loop-f-preserved c =
    run-more asked function_calls c.args.functions.now c.loop-f.f-index c.f-item.result c.args.before c.loop-f.found c.function-found.result (grind (arith, c.loop-f-test.true)) c.f-item.is c.loop-f.invariant c.function-found.ensures
