use Rattle.std.proofs.Common.{◌≡◌, ◌∙◌, Err, Ok, length, rules, subst, sym}
use Rattle.std.proofs.lemmas.List.{length-map}
use Rattle.bal_base.specs.declared.fault.FaultCode.TheVariants.{NoPeer}
use Rattle.bal_base.specs.declared.fault.Kept.TheVariants.{Nothing}
use Rattle.checks.specs.Checks.{Comes}
use Rattle.checks.proofs.Steps.{goes_on, stops}
use Rattle.worker_pairing.specs.Faults.{at_event, has_no_peer, none_bad}
use Rattle.worker_members.specs.Held.{member_held, members_held}
use Rattle.worker_plans.specs.inner.Chains.{conditioned, peered}
use Rattle.worker_plans.proofs.plans.settled.Goals as goal

pub returns-in-Ok : goal.returns-in-Ok
returns-in-Ok c env =
    let ms = members_held c.args.members.now in
    let long : c.len.result ≡ length c.args.members.now.workers.items = search rules in
    goes_on (peered ms) (λ _. conditioned ms) env env env tt c.conditioned.result
    (subst (λ es. Comes (none_bad (has_no_peer ms) (at_event NoPeer Nothing) es) env (Ok tt) env) c.requires (c.in-Ok.ensures ms env (length-map c.args.members.now.workers.items member_held ∙ sym long))) (c.conditioned.ensures env)

pub returns-in-Err : goal.returns-in-Err
returns-in-Err c env =
    let ms = members_held c.args.members.now in
    let long : c.len.result ≡ length c.args.members.now.workers.items = search rules in
    stops (peered ms) (λ _. conditioned ms) env env c.in-Err.stop
    (subst (λ es. Comes (none_bad (has_no_peer ms) (at_event NoPeer Nothing) es) env (Err c.in-Err.stop) env) c.requires (c.in-Err.ensures ms env (length-map c.args.members.now.workers.items member_held ∙ sym long)))
