use Rattle.worker_ranks.proofs.peel.Freed.sweep.Goals as goal

pub loop-number-init : goal.loop-number-init
loop-number-init c = λ all frees are. are

pub loop-number-preserved : goal.loop-number-preserved
loop-number-preserved c = λ all frees are. c.free-in-loop-number.ensures all frees (c.free.ensures all frees (c.loop-number.invariant all frees are))
