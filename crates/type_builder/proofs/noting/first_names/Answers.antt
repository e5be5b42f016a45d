use Rattle.std.proofs.Common.{◌≡◌, Some, slice_get, refl, subst, arith}
use Rattle.name_resolution.specs.Definitions.{definitions_of}
use Rattle.type_builder.specs.Listing.{placed_of}
use Rattle.type_builder.specs.Passes.{IsNoted}
use Rattle.type_builder.proofs.Noted.{firsts-more, home-there, none-known, same-prefixes}
use Rattle.type_builder.proofs.Listed.{listed-at}
use Rattle.type_builder.proofs.noting.first_names.Goals as goal

pub loop-site-init : goal.loop-site-init
loop-site-init g c = none-known g.whole c.args.own _ refl (same-prefixes c.args.«package».now g.whole _ c.requires.0 c.in_ok-modules_in.ensures.files) c.in_ok-modules_in.ensures.empty

pub note-requires : goal.note-requires
note-requires g c =
    home-there g.whole c.args.own _ c.loop-site.names c.loop-site.site-index (placed_of c.site-item.result) c.loop-site.invariant
    (listed-at _ _ c.loop-site.site-index c.site-item.result c.requires.1.0 (grind (arith, c.loop-site-test.true)) c.site-item.is)

pub loop-site-preserved : goal.loop-site-preserved
loop-site-preserved g c =
    let ps = definitions_of g.whole in
    let i = c.loop-site.site-index in
    let q = placed_of c.site-item.result in
    let at : slice_get ps i ≡ Some q = listed-at _ _ i c.site-item.result c.requires.1.0 (grind (arith, c.loop-site-test.true)) c.site-item.is in
    firsts-more g.whole c.args.own i q c.loop-site.names c.note.new.names c.requires.1.1 at c.loop-site.invariant
    (subst (λ m. IsNoted q m c.loop-site.names c.note.new.names) c.first_meaning-meaning.ensures c.in_ok-note.ensures)
