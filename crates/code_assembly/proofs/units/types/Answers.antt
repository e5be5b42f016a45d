use Rattle.std.proofs.Common.{arith}
use Rattle.code_assembly.specs.Copies.{IsCopy}
use Rattle.code_assembly.proofs.Loops.{zip-next}
use Rattle.code_assembly.proofs.units.types.Goals as goal

pub loop-t-preserved : goal.loop-t-preserved
loop-t-preserved c = (
  zip-next IsCopy c.args.slots.now c.loop-t.t-index c.t-item.result _ _ _ (grind (arith, c.loop-t-test.true)) c.t-item.is c.in_ok-push.ensures.items c.loop-t.invariant.0 c.in_ok-sem.ensures,
  omega (arith, c.in_ok-push.ensures.len, c.loop-t.invariant.1),
)
