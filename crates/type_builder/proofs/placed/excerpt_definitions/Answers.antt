use Rattle.std.proofs.Common.{◌≡◌, ◌∙◌, ◌≤◌, Some, arith, map, length, refl, ap, subst}
use Rattle.std.specs.Prelude.{slice_get}
use Rattle.std.proofs.lemmas.List.{length-map, take_all}
use Rattle.name_resolution.specs.Definitions.{definitions_of}
use Rattle.name_resolution.specs.Excerpts.{picked}
use Rattle.name_resolution.specs.Reached.{is_reached}
use Rattle.type_builder.specs.Listing.{IsListing, Lists, if_wanted, placed_of}
use Rattle.type_builder.proofs.Listed.{listed-at, none-picked, one-picked, sites-placed}
use Rattle.type_builder.proofs.placed.excerpt_definitions.Goals as goal

pub loop-number-init : goal.loop-number-init
loop-number-init c = (none-picked (is_reached c.args.excerpt.now.away.items) (map placed_of c.deref-site-items.result.now) _ c.new-2.ensures.items c.new.ensures.items, refl)

pub loop-number-preserved : goal.loop-number-preserved
loop-number-preserved c =
    let sites = c.deref-site-items.result.now in
    let ps = map placed_of sites in
    let chosen = is_reached c.args.excerpt.now.away.items in
    let i = c.loop-number.number in
    let at : slice_get ps i ≡ Some (placed_of c.site-item.result) = listed-at ps sites i c.site-item.result refl (grind (arith, c.loop-number-test.true)) c.site-item.is in
    let lists = subst (λ b. Lists (if_wanted b (placed_of c.site-item.result)) c.loop-number.out c.site_if.new.self) c.has.ensures c.in_ok-site_if.ensures in
    (one-picked chosen ps i (placed_of c.site-item.result) c.loop-number.out c.site_if.new.self at c.loop-number.invariant.0 lists, lists.first ∙ c.loop-number.invariant.1)

pub returns-clause-listed : goal.returns-clause-listed
returns-clause-listed c =
    let sites = c.deref-site-items.result.now in
    let ps = map placed_of sites in
    let chosen = is_reached c.args.excerpt.now.away.items in
    let end : length ps ≤ c.loop-number.number = let long = length-map sites placed_of in omega (arith, long, c.loop-number-test.false) in
    subst (λ qs. IsListing (picked chosen 0 qs) c.loop-number.out) (take_all c.loop-number.number ps end ∙ ap (map placed_of) c.deref-site-items.ensures.value ∙ sites-placed (definitions_of c.args.«package».now) c.in_ok-whole.whole c.in_ok-whole.ensures.listed) c.loop-number.invariant.0

pub returns-clause-first : goal.returns-clause-first
returns-clause-first c = c.loop-number.invariant.1
