use Rattle.std.proofs.Common.{arith, subst, sym}
use Rattle.std.specs.Prelude.{drop, option_map}
use Rattle.std.specs.List.{flat_map}
use Rattle.worker_pairing.specs.Marks.{in_turn, members_of}
use Rattle.worker_plans.specs.Sends.{pairs_at}
use Rattle.plan_checks.specs.Stripping.{Strips}
use Rattle.plan_checks.proofs.Stripped.{worker-next, worker-none}
use Rattle.plan_checks.proofs.pairs.without_named.Goals as goal

pub returns-in_err-left : goal.returns-in_err-left
returns-in_err-left c =
    let ms = members_of c.args.f.now in
    subst (λ o. Strips (flat_map (pairs_at ms) (in_turn 1 (drop 1 ms))) c.args.given.now (option_map (λ r. r.now) o)) (sym c.from_residual.ensures)
    (worker-none ms c.args.given.now c.loop-worker.left.now c.loop-worker.worker c.loop-worker.invariant.0 c.loop-worker.invariant.1 c.in_err-left.ensures)

pub loop-worker-preserved : goal.loop-worker-preserved
loop-worker-preserved c = (
  omega arith,
  worker-next (members_of c.args.f.now) c.args.given.now c.loop-worker.left.now c.in_ok-left.left.now c.loop-worker.worker c.loop-worker.invariant.0 c.loop-worker.invariant.1 c.in_ok-left.ensures,
)
