use Rattle.std.proofs.Common.{◌∙◌, ap, map, sym}
use Rattle.std.proofs.lemmas.List.{length-map}
use Rattle.worker_pairing.specs.Faults.{named_count}
use Rattle.worker_members.specs.Held.{member_held}
use Rattle.worker_plans.proofs.Chaining.{named-none}
use Rattle.worker_plans.proofs.plans.named_workers.Goals as goal

pub returns-in-Some : goal.returns-in-Some
returns-in-Some c = sym (ap (λ ws. named_count (map member_held ws)) c.in-Some.ensures.cases.0 ∙ length-map c.in-Some.named.now member_held)

pub returns-in-None : goal.returns-in-None
returns-in-None c = named-none c.args.workers.now c.in-None.ensures.cases
