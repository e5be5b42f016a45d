use Rattle.std.proofs.Common.{None, Some, arith, refl, subst, sym}
use Rattle.std.specs.Prelude.{option_map}
use Rattle.worker_pairing.specs.Marks.{members_of}
use Rattle.event_search.specs.declared.search.Which.TheVariants.{ReceivedFrom}
use Rattle.event_search.specs.Search.{IsSearched}
use Rattle.plan_checks.specs.Stripping.{Strips, event_held}
use Rattle.plan_checks.proofs.Counting.{kinds-within}
use Rattle.plan_checks.proofs.Due.{message-due}
use Rattle.plan_checks.proofs.pairs.without_message.Goals as goal

pub nth-requires : goal.nth-requires
nth-requires c = let within = kinds-within (members_of c.args.f.now) c.args.to in let few = c.requires in omega (arith, within, few)

pub returns-in-Some : goal.returns-in-Some
returns-in-Some c e same =
    let ms = members_of c.args.f.now in
    subst (λ l. Strips l c.args.given.now (option_map (λ r. r.now) c.without_pair.result))
    (sym (message-due c.args.f.now.unit.result ms e (event_held c.args.send) c.args.to c.before-place.result (Some c.in-Some.found) same c.before-place.ensures
    (subst (IsSearched ms c.args.to (ReceivedFrom c.args.send.worker) c.before-place.result) c.in-Some.is c.nth.ensures)))
    c.without_pair.ensures

pub returns-in-None : goal.returns-in-None
returns-in-None c e same =
    let ms = members_of c.args.f.now in
    subst (λ l. Strips l c.args.given.now (Some c.args.given.now))
    (sym (message-due c.args.f.now.unit.result ms e (event_held c.args.send) c.args.to c.before-place.result None same c.before-place.ensures
    (subst (IsSearched ms c.args.to (ReceivedFrom c.args.send.worker) c.before-place.result) c.in-None.is c.nth.ensures)))
    refl
