use Rattle.std.proofs.Common.{◌↔◌, Option, IsTrue, subst}
use Rattle.stack_code.specs.Flow.{workers_here}
use Rattle.stack_code.specs.Places.{Tally, tally_at}
use Rattle.code_needs.specs.PlaceNeeds.{Reaches}
use Rattle.needs_of_places.specs.Sites.{station_of}
use Rattle.place_numbers.proofs.Carried.{same-tally}
use Rattle.place_numbers.proofs.places.reaches_same.Goals as goal

pub returns : goal.returns
returns c =
    let site = c.args.site in
    subst (λ (t : Option Tally). IsTrue c.reaches.result ↔ Reaches site.code.now site.unit.now (station_of site) c.args.place c.args.to t)
    (same-tally (workers_here site.code.now site.unit.now (station_of site)) (tally_at site.code.now c.args.place)) c.reaches.ensures
