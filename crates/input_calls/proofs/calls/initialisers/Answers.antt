use Rattle.std.proofs.Common.{arith}
use Rattle.input_calls.specs.Calls.{asked, initialiser_calls}
use Rattle.typed_tree.proofs.Running.{run-more}
use Rattle.input_calls.proofs.calls.initialisers.Goals as goal

pub loop-i-preserved : goal.loop-i-preserved
loop-i-preserved c =
    run-more asked initialiser_calls c.args.initialisers.now c.loop-i.i-index c.i-item.result c.args.before c.loop-i.found c.initialiser-found.result (grind (arith, c.loop-i-test.true)) c.i-item.is c.loop-i.invariant c.initialiser-found.ensures
