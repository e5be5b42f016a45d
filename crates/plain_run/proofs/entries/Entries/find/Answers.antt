use Rattle.std.proofs.Common.{◌∙◌, ap, option_map, position, subst}
use Rattle.plain_run.specs.Entries.{ArePlaces, IsIndex, place_kept}
use Rattle.plain_run.proofs.Indexed.{position-within}
use Rattle.plain_run.proofs.KeyPlaces.{has_key}
use Rattle.plain_run.proofs.entries.Entries.find.Goals as goal

pub returns-in-Some-clause-place : goal.returns-in-Some-clause-place
returns-in-Some-clause-place c =
    let key = c.args.key.now in
    let es = c.self.inside.items.items in
    let are : ArePlaces es c.in-Some.places.value = subst (λ index. IsIndex es (option_map (λ b. b.value) index)) c.in-Some.is c.self.invariant in
    c.copied.ensures ∙ (c.get.ensures.value ∙ (ap (λ places. place_kept places key) c.deref.ensures ∙ (are key ∙ ap (position (has_key key)) c.self.view_is)))

pub returns-in-Some-clause-bound : goal.returns-in-Some-clause-bound
returns-in-Some-clause-bound c = position-within (has_key c.args.key.now) c.args.self.now c.copied.result (returns-in-Some-clause-place c)
