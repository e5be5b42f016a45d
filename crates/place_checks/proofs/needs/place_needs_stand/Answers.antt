use Rattle.needs_of_places.specs.Sites.{station_of}
use Rattle.needs_of_rows.specs.Finding.{needs_in}
use Rattle.place_checks.specs.Telling.{AsksOf}
use Rattle.place_checks.proofs.Asking.{may-here, may-kept}
use Rattle.place_checks.proofs.needs.place_needs_stand.Goals as goal

pub found_at-requires-clause-lent : goal.found_at-requires-clause-lent
found_at-requires-clause-lent g c = c.lend-lent.ensures c.args.site.code.now c.args.place c.requires.always c.in_ok-loan.ensures

pub needs_stand-requires-clause-may : goal.needs_stand-requires-clause-may
needs_stand-requires-clause-may g c =
    let site = c.args.site in
    may-kept site.code.now.atoms (g.T.Types.atoms c.args.types.now) c.requires.keeps (needs_in c.in_ok-found.found)
    (may-here c.place_needs_may_be_asked.ensures.asked site.code.now site.unit.now (station_of site) c.args.place c.requires.defined c.requires.unit c.requires.callable (needs_in c.in_ok-found.found) c.in_ok-found.ensures)

pub returns-clause-told : goal.returns-clause-told
returns-clause-told g c =
    let site = c.args.site in
    c.needs_stand.ensures.told site.code.now site.unit.now (station_of site) c.args.place (record {
      are = c.in_ok-found.ensures;
      may = may-here c.place_needs_may_be_asked.ensures.asked site.code.now site.unit.now (station_of site) c.args.place c.requires.defined c.requires.unit c.requires.callable (needs_in c.in_ok-found.found) c.in_ok-found.ensures;
      keeps = c.requires.keeps;
    })

pub returns-clause-limit : goal.returns-clause-limit
returns-clause-limit g c =
    let site = c.args.site in
    c.needs_stand.ensures.limit site.code.now site.unit.now (station_of site) c.args.place (record {
      are = c.in_ok-found.ensures;
      may = may-here c.place_needs_may_be_asked.ensures.asked site.code.now site.unit.now (station_of site) c.args.place c.requires.defined c.requires.unit c.requires.callable (needs_in c.in_ok-found.found) c.in_ok-found.ensures;
      keeps = c.requires.keeps;
    })
