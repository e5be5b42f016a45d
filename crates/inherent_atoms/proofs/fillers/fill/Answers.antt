use Rattle.std.proofs.Common.{arith, sym}
use Rattle.inherent_atoms.proofs.Filling.{filled, filling-begins, filling-next, past-end}
use Rattle.inherent_atoms.proofs.fillers.fill.Goals as goal

pub loop-done-init : goal.loop-done-init
loop-done-init c = filling-begins c.args.defs.now _

pub loop-done-preserved : goal.loop-done-preserved
loop-done-preserved c =
    filling-next c.args.defs.now _ _ _ c.loop-done.done c.in-Some.atom c.loop-done.invariant (sym c.in-Some.ensures) c.in_ok-fillers_at-in-Some.ensures

pub returns-in-None : goal.returns-in-None
returns-in-None c = filled c.args.defs.now _ _ c.loop-done.done c.loop-done.invariant (past-end _ c.loop-done.done (sym c.in-None.ensures))

pub returns : goal.returns
returns c = filled c.args.defs.now _ _ c.loop-done.done c.loop-done.invariant (omega arith)
