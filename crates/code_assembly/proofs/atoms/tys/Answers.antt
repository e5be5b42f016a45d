use Rattle.std.proofs.Common.{arith}
use Rattle.code_assembly.specs.Copies.{IsSameTy}
use Rattle.code_assembly.proofs.Loops.{zip-next}
use Rattle.code_assembly.proofs.atoms.tys.Goals as goal

pub loop-t-preserved : goal.loop-t-preserved
loop-t-preserved c =
    zip-next IsSameTy c.args.ts.now c.loop-t.t-index c.t-item.result _ _ _ (grind (arith, c.loop-t-test.true)) c.t-item.is c.in_ok-push.ensures.items c.loop-t.invariant c.in_ok-ty.ensures
