use Rattle.std.proofs.Common.{◌≡◌, ◌∙◌, arith}
use Rattle.worker_pairing.specs.Faults.{start_of}
use Rattle.worker_pairing.specs.Marks.{members_of}
use Rattle.plan_checks.proofs.Counting.{start-zero}
use Rattle.plan_checks.proofs.Within.{left-next, left-none}
use Rattle.plan_checks.proofs.counts.left_behind.Goals as goal

pub loop-worker-init : goal.loop-worker-init
loop-worker-init c = let none : start_of (members_of c.args.f.now) 0 ≡ 0 = start-zero (members_of c.args.f.now) in omega (arith, none)

pub loop-worker-preserved : goal.loop-worker-preserved
loop-worker-preserved c = left-next (members_of c.args.f.now) c.args.many c.loop-worker.worker c.loop-worker.left c.in_ok-left.left c.loop-worker.invariant c.in_ok-left.ensures

pub returns-in_err-left : goal.returns-in_err-left
returns-in_err-left c =
    c.from_residual.ensures
    ∙ left-none (members_of c.args.f.now) c.args.many c.loop-worker.worker c.loop-worker.left c.args.workers _ (let test = c.loop-worker-test.true in omega (arith, test)) c.loop-worker.invariant c.in_err-left.ensures
