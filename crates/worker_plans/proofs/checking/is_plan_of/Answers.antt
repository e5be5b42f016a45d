use Rattle.std.proofs.Common.{◌≡◌, true, subst, sym}
use Rattle.std.specs.Prelude.{◌&&◌, ◌↔◌}
use Rattle.worker_pairing.specs.Faults.{IsPlan}
use Rattle.worker_members.specs.Held.{members_held}
use Rattle.worker_plans.proofs.Same.{plan-ok}
use Rattle.worker_plans.proofs.checking.is_plan_of.Goals as goal

pub returns-then-paired : goal.returns-then-paired
returns-then-paired c =
    subst (λ a. (a && c.in_ok-numbered.numbered) ≡ true ↔ IsPlan (members_held c.args.found.now.members) c.args.plan.now) c.if-paired.true
    (plan-ok (members_held c.args.found.now.members) c.args.plan.now c.as_slice.result.now c.as_slice-2.result.now c.in_ok-paired.paired c.in_ok-numbered.numbered c.as_slice.ensures c.as_slice-2.ensures
    c.in_ok-paired.ensures c.in_ok-numbered.ensures)

pub returns-else-paired : goal.returns-else-paired
returns-else-paired c =
    subst (λ b. b ≡ true ↔ IsPlan (members_held c.args.found.now.members) c.args.plan.now) (sym c.if-paired.false)
    (subst (λ a. (a && c.in_ok-numbered.numbered) ≡ true ↔ IsPlan (members_held c.args.found.now.members) c.args.plan.now) c.if-paired.false
    (plan-ok (members_held c.args.found.now.members) c.args.plan.now c.as_slice.result.now c.as_slice-2.result.now c.in_ok-paired.paired c.in_ok-numbered.numbered c.as_slice.ensures c.as_slice-2.ensures
    c.in_ok-paired.ensures c.in_ok-numbered.ensures))
