use Rattle.std.proofs.Common.{◌≤◌}
use Rattle.type_model.specs.Calls.{KeepsTypes}
use Rattle.needs_of_places.specs.Sites.{station_of}
use Rattle.place_checks.specs.Standing.{StandBefore}
use Rattle.unit_checks.proofs.units.fallen_by.Given as goal

abbrev pub invariant-loop-place : goal.invariant-loop-place
invariant-loop-place g l =
    (l.site.unit.now.first ≤ l.place) × KeepsTypes (g.T.Types.atoms l.fn.types) (g.T.Types.atoms l.types) × StandBefore l.site.code.now l.site.unit.now (station_of l.site) l.place
