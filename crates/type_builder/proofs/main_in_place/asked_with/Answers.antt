use Rattle.std.proofs.Common.{◌∙◌, length, sym, ap, subst, Ok, Err}
use Rattle.graphs.specs.Ordering.{IsOrder}
use Rattle.name_resolution.specs.Outlines.{outlines_of}
use Rattle.name_resolution.specs.Resolved.{parts}
use Rattle.type_builder.specs.Listing.{IsListing}
use Rattle.type_builder.proofs.Built.{room-so}
use Rattle.type_builder.proofs.InPlace.{asked, full, room-listed}
use Rattle.type_builder.proofs.main_in_place.asked_with.Goals as goal

pub question-asked-requires : goal.question-asked-requires
question-asked-requires g c = λ κs lives.
    let old = g.T.Types.atoms c.args.types.now in
    let excerpt = c.requires.1.0 in
    let listed = subst (λ ds. IsListing ds c.in-Ok.listing) (sym excerpt.definitions) c.in-Ok.ensures.listed in
    let long = ap length (c.defs.ensures.value ∙ c.env.ensures) in (
      lives,
      (
        excerpt.main,
        (
          excerpt.imports,
          (
            c.requires.1.1.0,
            (
              listed,
              (
                subst (IsOrder (parts (outlines_of g.whole))) (sym c.deref-in-Ok-room.ensures.value) c.requires.1.1.1.0,
                (
                  c.in-Ok.ensures.first ∙ long,
                  (c.requires.1.1.1.1, room-so g.whole old _ (room-listed g.whole c.in-Ok.listing c.deref.result.now old (Ok _) listed c.deref.ensures.value (c.in-Ok-room.ensures old (sym long)))),
                ),
              ),
            ),
          ),
        ),
      ),
    )

pub returns-in-Ok-room-clause-told : goal.returns-in-Ok-room-clause-told
returns-in-Ok-room-clause-told g c =
    let old = g.T.Types.atoms c.args.types.now in
    let listed = subst (λ ds. IsListing ds c.in-Ok.listing) (sym c.requires.1.0.definitions) c.in-Ok.ensures.listed in
    let long = sym (ap length (c.defs.ensures.value ∙ c.env.ensures)) in
    asked g.T.Types.passes g.whole c.args.own c.args.behind old (g.T.Types.atoms c.question-asked.new.types) _ c.question-asked.result c.first_of.result
    (room-listed g.whole c.in-Ok.listing c.deref.result.now old (Ok _) listed c.deref.ensures.value (c.in-Ok-room.ensures old long)) c.question-asked.ensures.comes c.first_of.ensures

pub returns-in-Err-room-clause-told : goal.returns-in-Err-room-clause-told
returns-in-Err-room-clause-told g c =
    let old = g.T.Types.atoms c.args.types.now in
    let listed = subst (λ ds. IsListing ds c.in-Ok.listing) (sym c.requires.1.0.definitions) c.in-Ok.ensures.listed in
    let long = sym (ap length (c.defs.ensures.value ∙ c.env.ensures)) in
    full g.T.Types.passes g.whole c.args.own c.args.behind old c.in-Err-room.stop c.unless_memory.result
    (room-listed g.whole c.in-Ok.listing c.deref.result.now old (Err c.in-Err-room.stop) listed c.deref.ensures.value (c.in-Err-room.ensures old long)) c.unless_memory.ensures
