use Rattle.std.proofs.Common.{arith}
use Rattle.worker_pairing.specs.Marks.{members_of}
use Rattle.plan_checks.specs.Needing.{FallsAt}
use Rattle.plan_checks.proofs.Falling.{past-falls-at}
use Rattle.plan_checks.proofs.Loops.{all-pass, one-fails, one-more}
use Rattle.plan_checks.proofs.needs.falls_in.Goals as goal

pub loop-number-init : goal.loop-number-init
loop-number-init c i lt = absurd (omega (arith, lt))

pub loop-number-preserved : goal.loop-number-preserved
loop-number-preserved c =
    one-more (FallsAt (members_of c.args.f.now) c.args.ranks.now c.args.worker) c.loop-number.number c.loop-number.invariant (c.falls_at.ensures.0 c.if-not-falls_at.false)

pub returns-then-not-falls_at : goal.returns-then-not-falls_at
returns-then-not-falls_at c =
    one-fails (FallsAt (members_of c.args.f.now) c.args.ranks.now c.args.worker) c.loop-number.number c.falls_at.result c.falls_at.ensures.1 c.if-not-falls_at.true

pub returns : goal.returns
returns c =
    all-pass (FallsAt (members_of c.args.f.now) c.args.ranks.now c.args.worker) c.loop-number.number c.count-number-end.result (omega arith) c.loop-number.invariant
    (λ i le. past-falls-at (members_of c.args.f.now) c.args.ranks.now c.args.worker i (let many = c.count-number-end.ensures in omega (arith, many, le)))
