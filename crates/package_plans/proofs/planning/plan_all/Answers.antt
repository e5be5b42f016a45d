use Rattle.std.proofs.Common.{◌≡◌, ◌∙◌, ◌+◌, Err, Ok, List, arith, drop, refl, rules, subst, sym}
use Rattle.bal_base.specs.declared.stop.Stop.TheVariants.{Memory}
use Rattle.checks.specs.Checks.{Comes}
use Rattle.checks.proofs.Steps.{ran_out}
use Rattle.typed_tree.specs.declared.event.Plan.{Plan}
use Rattle.package_plans.specs.Planned.{all_give, function_plans}
use Rattle.package_plans.specs.inner.InTurn.{Leads, given}
use Rattle.package_plans.proofs.Turns.{at-end, leads-all, leads-end, leads-next, leads-stop}
use Rattle.package_plans.proofs.planning.plan_all.Goals as goal

pub loop-f-init : goal.loop-f-init
loop-f-init g c = (
  refl,
  subst (λ (d : List Plan). Leads (function_plans g.T.Types.passes) (g.T.Types.atoms c.args.types.now) c.args.functions.now d c.args.functions.now) (sym c.new-plans.ensures.items)
      (leads-all (function_plans g.T.Types.passes) (g.T.Types.atoms c.args.types.now) c.args.functions.now),
)

pub loop-f-preserved : goal.loop-f-preserved
loop-f-preserved g c = (
  c.in_ok-plan.ensures.atoms ∙ c.loop-f.invariant.0,
  subst (λ (d : List Plan). Leads (function_plans g.T.Types.passes) (g.T.Types.atoms c.args.types.now) c.args.functions.now d (drop (c.loop-f.f-index + 1) c.args.functions.now)) (sym c.in_ok-push.ensures.items)
      (leads-next (function_plans g.T.Types.passes) (g.T.Types.atoms c.args.types.now) c.args.functions.now c.args.functions.now c.loop-f.f-index c.loop-f.plans.items c.f-item.result _ (g.T.Types.atoms c.loop-f.types) (g.T.Types.atoms c.plan_function.new.types)
      (grind (arith, c.loop-f-test.true)) c.f-item.is c.loop-f.invariant.0 (c.in_ok-plan.ensures.atoms ∙ c.loop-f.invariant.0) c.in_ok-plan.ensures.comes c.loop-f.invariant.1),
)

pub returns-in_err-plan-clause-comes : goal.returns-in_err-plan-clause-comes
returns-in_err-plan-clause-comes g c =
    let check = all_give (function_plans g.T.Types.passes) c.args.functions.now in
    let env = g.T.Types.atoms c.args.types.now in
    let new = g.T.Types.atoms c.plan_function.new.types in
    let same = c.in_err-plan.ensures.atoms ∙ c.loop-f.invariant.0 in
    let passed : c.from_residual.result ≡ Err c.in_err-plan.field-0.0 = search rules in
    subst (λ r. Comes check env (given r) new) (sym passed)
    (at-end check env new (Err c.in_err-plan.field-0.0) same
    (leads-stop (function_plans g.T.Types.passes) env c.args.functions.now c.args.functions.now c.loop-f.f-index c.loop-f.plans.items c.f-item.result (g.T.Types.atoms c.loop-f.types) new c.in_err-plan.field-0.0
    (grind (arith, c.loop-f-test.true)) c.f-item.is c.loop-f.invariant.0 same c.in_err-plan.ensures.comes c.loop-f.invariant.1))

pub returns-clause-comes : goal.returns-clause-comes
returns-clause-comes g c =
    at-end (all_give (function_plans g.T.Types.passes) c.args.functions.now) (g.T.Types.atoms c.args.types.now) (g.T.Types.atoms c.loop-f.types) (Ok c.loop-f.plans.items) c.loop-f.invariant.0
    (leads-end (function_plans g.T.Types.passes) (g.T.Types.atoms c.args.types.now) c.args.functions.now c.args.functions.now c.loop-f.f-index c.loop-f.plans.items (grind (arith, c.loop-f-test.false)) c.loop-f.invariant.1)

pub returns-in_err-push-clause-comes : goal.returns-in_err-push-clause-comes
returns-in_err-push-clause-comes g c =
    let check = all_give (function_plans g.T.Types.passes) c.args.functions.now in
    let passed : c.from_residual-in_err-push.result ≡ Err Memory = search rules in
    subst (λ r. Comes check (g.T.Types.atoms c.args.types.now) (given r) (g.T.Types.atoms c.plan_function.new.types)) (sym passed)
    (ran_out check (g.T.Types.atoms c.args.types.now) (g.T.Types.atoms c.plan_function.new.types))
