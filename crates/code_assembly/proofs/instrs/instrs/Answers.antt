use Rattle.std.proofs.Common.{arith}
use Rattle.code_assembly.proofs.Loops.{come-next}
use Rattle.code_assembly.proofs.instrs.instrs.Goals as goal

pub loop-step-preserved : goal.loop-step-preserved
loop-step-preserved c =
    come-next _ _ _ c.args.labels.now c.args.steps.now c.loop-step.step-index c.step-item.result _ _ _ (grind (arith, c.loop-step-test.true)) c.step-item.is c.in_ok-push.ensures.items c.loop-step.invariant c.in_ok-instr.ensures.grows c.in_ok-instr.ensures.comes
