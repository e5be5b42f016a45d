use Rattle.std.proofs.Common.{arith}
use Rattle.worker_pairing.specs.Marks.{members_of}
use Rattle.plan_checks.specs.Needing.{Rises}
use Rattle.plan_checks.proofs.Falling.{past-rises}
use Rattle.plan_checks.proofs.Loops.{all-pass, one-fails, one-more}
use Rattle.plan_checks.proofs.ranks.ranks_rise.Goals as goal

pub loop-worker-init : goal.loop-worker-init
loop-worker-init c i lt = absurd (omega (arith, lt))

pub loop-worker-preserved : goal.loop-worker-preserved
loop-worker-preserved c = one-more (Rises (members_of c.args.f.now) c.args.ranks.now) c.loop-worker.worker c.loop-worker.invariant (c.rises_in.ensures.0 c.if-not-rises_in.false)

pub returns-then-not-rises_in : goal.returns-then-not-rises_in
returns-then-not-rises_in c = one-fails (Rises (members_of c.args.f.now) c.args.ranks.now) c.loop-worker.worker c.rises_in.result c.rises_in.ensures.1 c.if-not-rises_in.true

pub returns : goal.returns
returns c =
    all-pass (Rises (members_of c.args.f.now) c.args.ranks.now) c.loop-worker.worker c.worker_count-worker-end.result (omega arith) c.loop-worker.invariant
    (λ w le. past-rises (members_of c.args.f.now) c.args.ranks.now w (let many = c.worker_count-worker-end.ensures in omega (arith, many, le)))
