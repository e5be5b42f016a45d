use Rattle.std.proofs.Common.{◌≡◌, true, subst}
use Rattle.std.specs.Prelude.{◌↔◌, IfOk}
use Rattle.worker_pairing.specs.Faults.{IsPlan}
use Rattle.worker_plans.proofs.checking.check_plan.Goals as goal

pub returns : goal.returns
returns c = subst (λ ms. IfOk c.is_plan_of.result (λ b. b ≡ true ↔ IsPlan ms c.args.plan.now)) c.in_ok-found.ensures.members c.is_plan_of.ensures
