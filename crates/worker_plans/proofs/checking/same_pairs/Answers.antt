use Rattle.std.proofs.Common.{◌∙◌, arith, sym}
use Rattle.worker_plans.proofs.Same.{apart, same-all, same-next, unlike}
use Rattle.worker_plans.proofs.checking.same_pairs.Goals as goal

pub returns-then-a-b : goal.returns-then-a-b
returns-then-a-b c = unlike c.args.a.now c.args.b.now (λ e. omega (arith, e))

pub loop-i-init : goal.loop-i-init
loop-i-init c j d lt there = absurd (omega (arith, lt))

pub loop-i-preserved : goal.loop-i-preserved
loop-i-preserved c = same-next c.args.a.now c.args.b.now c.loop-i.i (λ d. sym (c.same_at.ensures d) ∙ c.if-not-same_at.false) c.loop-i.invariant

pub returns-then-not-same_at : goal.returns-then-not-same_at
returns-then-not-same_at c = apart c.args.a.now c.args.b.now c.loop-i.i (λ d. sym (c.same_at.ensures d) ∙ c.if-not-same_at.true)

pub returns : goal.returns
returns c = same-all c.args.a.now c.args.b.now c.loop-i.i (omega arith) (omega arith) c.loop-i.invariant
