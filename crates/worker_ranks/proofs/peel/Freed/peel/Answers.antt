use Rattle.worker_ranks.proofs.peel.Freed.peel.Goals as goal

pub loop-init : goal.loop-init
loop-init c = λ all frees are. are

pub loop-preserved : goal.loop-preserved
loop-preserved c = λ all frees are. c.sweep.ensures all frees (c.loop.invariant all frees are)

pub returns-then-not-self : goal.returns-then-not-self
returns-then-not-self c = λ all frees are. c.sweep.ensures all frees (c.loop.invariant all frees are)
