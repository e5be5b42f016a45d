use Rattle.std.proofs.Common.{arith}
use Rattle.code_assembly.specs.Copies.{IsSameDef}
use Rattle.code_assembly.proofs.Loops.{zip-next}
use Rattle.code_assembly.proofs.atoms.defs.Goals as goal

pub loop-d-preserved : goal.loop-d-preserved
loop-d-preserved c =
    zip-next IsSameDef c.args.defs.now c.loop-d.d-index c.d-item.result _ _ _ (grind (arith, c.loop-d-test.true)) c.d-item.is c.in_ok-push.ensures.items c.loop-d.invariant c.in_ok-def.ensures
