use Rattle.std.proofs.Common.{arith}
use Rattle.isolation_check.specs.Isolated.{function_promises, own_parts}
use Rattle.isolation_check.specs.Parts.{function_parts}
use Rattle.isolation_check.proofs.Lists.{joined-more, mapped-more}
use Rattle.isolation_check.proofs.gathering.Gathered.functions.Goals as goal

pub loop-f-preserved : goal.loop-f-preserved
loop-f-preserved c = (
  mapped-more (λ f. own_parts (function_parts f)) _ _ _ c.args.fs.now c.loop-f.f-index c.f-item.result (grind (arith, c.loop-f-test.true)) c.f-item.is c.loop-f.invariant.0 c.in_ok-function.ensures.bodies,
  joined-more function_promises _ _ _ c.args.fs.now c.loop-f.f-index c.f-item.result (grind (arith, c.loop-f-test.true)) c.f-item.is c.loop-f.invariant.1 c.in_ok-function.ensures.promises,
)
