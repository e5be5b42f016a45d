use Rattle.std.proofs.Common.{arith}
use Rattle.lower_expr.specs.Drafts.{step_of}
use Rattle.tested_types.specs.Asked.{Asks}
use Rattle.tested_types.proofs.Noting.{mapped-all, mapped-next, notes-empty}
use Rattle.tested_types.proofs.steps.steps.Goals as goal

pub loop-s-init : goal.loop-s-init
loop-s-init c = notes-empty Asks _

pub loop-s-preserved : goal.loop-s-preserved
loop-s-preserved c = mapped-next step_of Asks c.args.steps.now c.loop-s.s-index c.s-item.result _ _ _ (grind (arith, c.loop-s-test.true)) c.s-item.is c.loop-s.invariant c.in_ok-step.ensures

pub returns : goal.returns
returns c = mapped-all step_of Asks c.args.steps.now c.loop-s.s-index _ _ (omega (arith, c.loop-s-test.false)) c.loop-s.invariant
