use Rattle.needs_of_places.specs.Sites.{station_of}
use Rattle.unit_checks.proofs.Passing.{all-made, answer-stops, answer-told, shown-failed, shown-unmade}
use Rattle.unit_checks.proofs.places.place_stands.Goals as goal

pub returns-then-not-made_callable-clause-told : goal.returns-then-not-made_callable-clause-told
returns-then-not-made_callable-clause-told g c =
    let site = c.args.site in
    shown-unmade site.code.now site.unit.now (station_of site) c.args.place c.made_callable.result c.if-not-made_callable.true c.made_callable.ensures

pub returns-then-not-numbers_pass-clause-told : goal.returns-then-not-numbers_pass-clause-told
returns-then-not-numbers_pass-clause-told g c =
    let site = c.args.site in
    shown-failed site.code.now site.unit.now (station_of site) c.args.place c.numbers_pass.result c.if-not-numbers_pass.true c.numbers_pass.ensures

pub made_callable-requires : goal.made_callable-requires
made_callable-requires g c = c.requires.ready.callable

pub place_needs_stand-requires-clause-known : goal.place_needs_stand-requires-clause-known
place_needs_stand-requires-clause-known g c = c.requires.ready.known

pub place_needs_stand-requires-clause-always : goal.place_needs_stand-requires-clause-always
place_needs_stand-requires-clause-always g c = c.requires.ready.always

pub place_needs_stand-requires-clause-keeps : goal.place_needs_stand-requires-clause-keeps
place_needs_stand-requires-clause-keeps g c = c.requires.ready.keeps

pub place_needs_stand-requires-clause-unit : goal.place_needs_stand-requires-clause-unit
place_needs_stand-requires-clause-unit g c = c.requires.ready.unit

pub place_needs_stand-requires-clause-from : goal.place_needs_stand-requires-clause-from
place_needs_stand-requires-clause-from g c = c.requires.rowed.0

pub place_needs_stand-requires-clause-to : goal.place_needs_stand-requires-clause-to
place_needs_stand-requires-clause-to g c = c.requires.rowed.1

pub place_needs_stand-requires-clause-callable : goal.place_needs_stand-requires-clause-callable
place_needs_stand-requires-clause-callable g c = all-made c.args.site.code.now c.args.place c.made_callable.result c.if-not-made_callable.false c.made_callable.ensures

pub returns-clause-told : goal.returns-clause-told
returns-clause-told g c =
    let site = c.args.site in
    answer-told site.code.now site.unit.now (station_of site) c.args.place c.requires.defined (all-made site.code.now c.args.place c.made_callable.result c.if-not-made_callable.false c.made_callable.ensures)
    c.numbers_pass.result c.if-not-numbers_pass.false c.numbers_pass.ensures c.needs_decide_standing.ensures.told c.place_needs_stand.result c.place_needs_stand.ensures.told

pub returns-clause-limit : goal.returns-clause-limit
returns-clause-limit g c =
    let site = c.args.site in
    answer-stops site.code.now site.unit.now (station_of site) c.args.place c.requires.defined (all-made site.code.now c.args.place c.made_callable.result c.if-not-made_callable.false c.made_callable.ensures)
    c.numbers_pass.result c.if-not-numbers_pass.false c.numbers_pass.ensures g.T.Types.passes c.args.checking.serving.known.now c.place_needs_stand.result c.place_needs_stand.ensures.limit
