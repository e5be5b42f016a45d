use Rattle.std.proofs.Common.{ap, map, subst, sym, ◌∙◌}
use Rattle.checks.proofs.Steps.{ran_out}
use Rattle.worker_pairing.specs.Events.{IsOrderable}
use Rattle.worker_pairing.specs.Faults.{IsRingFault, crew_of, ordered}
use Rattle.worker_pairing.specs.Marks.{in_text}
use Rattle.worker_members.specs.Held.{member_held, members_held}
use Rattle.worker_plans.proofs.Chaining.{ring-comes}
use Rattle.worker_plans.proofs.plans.refused.Goals as goal

pub ring_fault-requires-clause-text : goal.ring_fault-requires-clause-text
ring_fault-requires-clause-text c = c.requires.text ∙ ap (λ ws. in_text (map member_held ws)) (sym c.deref.ensures.value)

pub ring_fault-requires-clause-none : goal.ring_fault-requires-clause-none
ring_fault-requires-clause-none c = subst (λ ws. ¬ IsOrderable (crew_of (map member_held ws))) (sym c.deref.ensures.value) c.requires.none

pub returns-in-Ok : goal.returns-in-Ok
returns-in-Ok c env = ring-comes (members_held c.args.members.now) c.in-Ok.fault env (subst (λ ws. IsRingFault (map member_held ws) c.in-Ok.fault) c.deref.ensures.value c.in-Ok.ensures)

pub returns-in-Err : goal.returns-in-Err
returns-in-Err c env = ran_out (ordered (members_held c.args.members.now)) env env
