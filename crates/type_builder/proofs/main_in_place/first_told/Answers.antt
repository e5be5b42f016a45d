use Rattle.std.proofs.Common.{subst}
use Rattle.name_resolution.specs.MainExcerpt.{IsMainExcerpt}
use Rattle.name_resolution.specs.Outlines.{outlines_of}
use Rattle.name_resolution.specs.Reached.{is_reached}
use Rattle.name_resolution.proofs.Excerpting.{is-excerpt}
use Rattle.type_builder.proofs.InPlace.{excerpt-faultless, excerpt-order, not-asked, of-excerpt}
use Rattle.type_builder.proofs.main_in_place.first_told.Goals as goal

pub asked-requires : goal.asked-requires
asked-requires g c = λ κs lives.
    let pack = c.args.«package».now in
    let ex = subst (IsMainExcerpt (outlines_of pack) pack.main) c.in-Ok-Some.field-0-is c.in-Ok-Some.ensures in (
      lives,
      (
        is-excerpt (is_reached c.in-Ok-Some.excerpt.away.items) pack,
        (excerpt-faultless pack c.in-Ok-Some.excerpt ex.0 ex.1 (g.T.Types.atoms c.args.types.now), excerpt-order pack c.in-Ok-Some.excerpt ex.0 ex.1),
      ),
    )

pub returns-in-Ok-Some-clause-told : goal.returns-in-Ok-Some-clause-told
returns-in-Ok-Some-clause-told g c =
    let pack = c.args.«package».now in
    let ex = subst (IsMainExcerpt (outlines_of pack) pack.main) c.in-Ok-Some.field-0-is c.in-Ok-Some.ensures in
    of-excerpt g.T.Types.passes pack c.args.behind c.in-Ok-Some.excerpt ex.0 ex.1 (g.T.Types.atoms c.args.types.now) (g.T.Types.atoms c.asked.new.types) c.asked.result c.asked.ensures.told

pub returns-in-Ok-None-clause-told : goal.returns-in-Ok-None-clause-told
returns-in-Ok-None-clause-told g c =
    let pack = c.args.«package».now in
    not-asked g.T.Types.passes pack c.args.behind (g.T.Types.atoms c.args.types.now) (subst (IsMainExcerpt (outlines_of pack) pack.main) c.in-Ok-None.field-0-is c.in-Ok-None.ensures)
