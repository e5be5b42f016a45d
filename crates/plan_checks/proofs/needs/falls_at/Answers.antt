use Rattle.std.proofs.Common.{◌∙◌, ◌↔◌, IsTrue, ap, refl, subst, sym}
use Rattle.std.specs.Prelude.{option_map}
use Rattle.worker_pairing.specs.Marks.{members_of}
use Rattle.worker_members.specs.Held.{kind_of}
use Rattle.event_search.specs.Search.{occurrence_held}
use Rattle.plan_checks.specs.Needing.{FallsBelow}
use Rattle.plan_checks.proofs.Due.{kind-found, kind-none}
use Rattle.plan_checks.proofs.Falling.{event-falls, no-event-falls}
use Rattle.plan_checks.proofs.needs.falls_at.Goals as goal

pub returns-in-Some : goal.returns-in-Some
returns-in-Some c =
    let ms = members_of c.args.f.now in
    event-falls ms c.args.ranks.now c.args.worker c.args.number c.event_falls.result (kind_of c.in-Some.event.kind)
    (kind-found ms c.args.worker c.args.number (occurrence_held c.in-Some.event) (sym (ap (option_map occurrence_held) c.in-Some.is) ∙ c.event_at.ensures))
    (subst (λ r. IsTrue c.event_falls.result ↔ FallsBelow ms c.args.ranks.now c.args.worker c.args.number (kind_of c.in-Some.event.kind) r) c.rank.ensures c.event_falls.ensures)

pub returns-in-None : goal.returns-in-None
returns-in-None c =
    let ms = members_of c.args.f.now in
    (λ h. no-event-falls ms c.args.ranks.now c.args.worker c.args.number (kind-none ms c.args.worker c.args.number (sym (ap (option_map occurrence_held) c.in-None.is) ∙ c.event_at.ensures)), λ falls. refl)
