use Rattle.std.proofs.Common.{arith}
use Rattle.code_assembly.specs.Copies.{IsSameField}
use Rattle.code_assembly.proofs.Loops.{zip-next}
use Rattle.code_assembly.proofs.atoms.fields.Goals as goal

pub loop-f-preserved : goal.loop-f-preserved
loop-f-preserved c =
    zip-next IsSameField c.args.fs.now c.loop-f.f-index c.f-item.result _ _ _ (grind (arith, c.loop-f-test.true)) c.f-item.is c.in_ok-push.ensures.items c.loop-f.invariant c.in_ok-field.ensures
