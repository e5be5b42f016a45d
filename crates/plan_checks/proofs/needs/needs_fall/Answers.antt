use Rattle.std.proofs.Common.{arith}
use Rattle.worker_pairing.specs.Marks.{members_of}
use Rattle.plan_checks.specs.Needing.{Falls}
use Rattle.plan_checks.proofs.Falling.{numbering-so, past-falls}
use Rattle.plan_checks.proofs.Loops.{all-pass, one-fails, one-more}
use Rattle.plan_checks.proofs.needs.needs_fall.Goals as goal

pub loop-worker-init : goal.loop-worker-init
loop-worker-init c i lt = absurd (omega (arith, lt))

pub loop-worker-preserved : goal.loop-worker-preserved
loop-worker-preserved c = one-more (Falls (members_of c.args.f.now) c.args.ranks.now) c.loop-worker.worker c.loop-worker.invariant (c.falls_in.ensures.0 c.if-not-falls_in.false)

pub returns-then-not-falls_in : goal.returns-then-not-falls_in
returns-then-not-falls_in c =
    numbering-so (members_of c.args.f.now) c.args.ranks.now _ c.requires.rises
    (one-fails (Falls (members_of c.args.f.now) c.args.ranks.now) c.loop-worker.worker c.falls_in.result c.falls_in.ensures.1 c.if-not-falls_in.true)

pub returns : goal.returns
returns c =
    numbering-so (members_of c.args.f.now) c.args.ranks.now _ c.requires.rises
    (all-pass (Falls (members_of c.args.f.now) c.args.ranks.now) c.loop-worker.worker c.worker_count-worker-end.result (omega arith) c.loop-worker.invariant
    (λ w le. past-falls (members_of c.args.f.now) c.args.ranks.now w (let many = c.worker_count-worker-end.ensures in omega (arith, many, le))))
