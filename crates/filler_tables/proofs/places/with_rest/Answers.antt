use Rattle.filler_tables.proofs.Rows.{rest-more}
use Rattle.filler_tables.proofs.places.with_rest.Goals as goal

pub returns-in_ok-push-in-Some : goal.returns-in_ok-push-in-Some
returns-in_ok-push-in-Some c = λ fixed z.
    rest-more c.args.rest.now c.in-Some.t fixed c.args.places.items _ c.in_ok-place_of-in-Some.field-0 c.in-Some.is c.in_ok-push-in-Some.ensures.items c.in_ok-place_of-in-Some.ensures z
