use Rattle.std.proofs.Common.{◌∙◌, Some, ap, refl, subst, sym}
use Rattle.std.specs.Prelude.{option_map}
use Rattle.worker_pairing.specs.Faults.{pairs_on}
use Rattle.worker_pairing.specs.Marks.{members_of}
use Rattle.plan_checks.specs.Stripping.{Strips}
use Rattle.plan_checks.proofs.pairs.without_sent.Goals as goal

pub returns-in-Some : goal.returns-in-Some
returns-in-Some c e same sent =
    subst (λ r. Strips (pairs_on (members_of c.args.f.now) e r) c.args.given.now (option_map (λ r. r.now) c.without_message.result))
    (sym (sent ∙ ap (option_map (λ v. (c.args.send.worker, v))) c.in-Some.is)) (c.without_message.ensures e same)

pub returns-in-None : goal.returns-in-None
returns-in-None c e same sent =
    subst (λ r. Strips (pairs_on (members_of c.args.f.now) e r) c.args.given.now (Some c.args.given.now)) (sym (sent ∙ ap (option_map (λ v. (c.args.send.worker, v))) c.in-None.is)) refl
