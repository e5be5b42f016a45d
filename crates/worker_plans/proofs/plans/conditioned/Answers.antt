use Rattle.std.proofs.Common.{Err, Ok, subst}
use Rattle.bal_base.specs.declared.fault.FaultCode.TheVariants.{Conditional}
use Rattle.bal_base.specs.declared.fault.Kept.TheVariants.{Nothing}
use Rattle.checks.specs.Checks.{Comes}
use Rattle.checks.proofs.Steps.{goes_on, stops}
use Rattle.worker_pairing.specs.Faults.{at_event, is_conditional, is_unpaired, none_bad, unpaired_fault}
use Rattle.worker_members.specs.Held.{members_held}
use Rattle.worker_plans.specs.inner.Chains.{paired, unconditional}
use Rattle.worker_plans.proofs.plans.conditioned.Goals as goal

pub returns-in-Ok : goal.returns-in-Ok
returns-in-Ok c env =
    let ms = members_held c.args.members.now in
    goes_on (unconditional ms) (λ _. paired ms) env env env tt c.none_unpaired.result
    (subst (λ es. Comes (none_bad is_conditional (at_event Conditional Nothing) es) env (Ok tt) env) c.requires (c.in-Ok.ensures env))
    (subst (λ es. Comes (none_bad (is_unpaired ms) (unpaired_fault ms) es) env c.none_unpaired.result env) c.requires (c.none_unpaired.ensures env))

pub returns-in-Err : goal.returns-in-Err
returns-in-Err c env =
    let ms = members_held c.args.members.now in
    stops (unconditional ms) (λ _. paired ms) env env c.in-Err.stop
    (subst (λ es. Comes (none_bad is_conditional (at_event Conditional Nothing) es) env (Err c.in-Err.stop) env) c.requires (c.in-Err.ensures env))
