use Rattle.std.proofs.Common.{◌∙◌, Some, ap, refl, subst, sym}
use Rattle.std.specs.Prelude.{option_map}
use Rattle.worker_pairing.specs.Marks.{members_of}
use Rattle.worker_partners.specs.Partners.{sayings_of}
use Rattle.event_search.specs.Search.{occurrence_held}
use Rattle.plan_checks.specs.Stripping.{Strips, one_event, pairs_in}
use Rattle.plan_checks.proofs.Due.{none-there, said-there}
use Rattle.plan_checks.proofs.pairs.without_event.Goals as goal

pub returns-in-Some : goal.returns-in-Some
returns-in-Some c =
    let ms = members_of c.args.f.now in
    let s = said-there (sayings_of ms c.args.worker) c.args.number (occurrence_held c.in-Some.event) (sym c.event_at.ensures ∙ ap (option_map occurrence_held) c.in-Some.is) in
    subst (λ o. Strips (pairs_in ms c.args.part (one_event c.args.worker c.args.number o)) c.args.given.now (option_map (λ r. r.now) c.without_if_part.result)) (sym s.1) (c.without_if_part.ensures s.0 s.2)

pub returns-in-None : goal.returns-in-None
returns-in-None c =
    let ms = members_of c.args.f.now in
    subst (λ o. Strips (pairs_in ms c.args.part (one_event c.args.worker c.args.number o)) c.args.given.now (Some c.args.given.now))
    (sym (none-there ms c.args.worker c.args.number (sym (ap (option_map occurrence_held) c.in-None.is) ∙ c.event_at.ensures))) refl
