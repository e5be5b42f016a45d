use Rattle.std.proofs.Common.{◌≤◌, Option, arith, refl, subst}
use Rattle.atom_questions.proofs.Stops.{kept-on}
use Rattle.needs_of_places.specs.Sites.{station_of}
use Rattle.place_checks.specs.declared.needs.Standing.{Standing}
use Rattle.place_checks.specs.Telling.{PlaceTells}
use Rattle.place_checks.proofs.Asking.{stays}
use Rattle.unit_checks.specs.declared.units.Fallen.{Fallen}
use Rattle.unit_checks.proofs.Onward.{ready-on, stand-more, stops-first}
use Rattle.unit_checks.proofs.units.fallen_by.Goals as goal

pub loop-place-init : goal.loop-place-init
loop-place-init g c = let env = g.T.Types.atoms c.args.types.now in (omega arith, stays env env refl, (λ q le lt. absurd (omega (arith, le, lt))))

pub place_stands-requires-clause-ready : goal.place_stands-requires-clause-ready
place_stands-requires-clause-ready g c = ready-on c.args.site c.args.checking (g.T.Types.atoms c.args.types.now) (g.T.Types.atoms c.loop-place.types) c.requires.ready c.loop-place.invariant.1

pub place_stands-requires-clause-rowed : goal.place_stands-requires-clause-rowed
place_stands-requires-clause-rowed g c = let le : c.loop-place.place ≤ c.args.site.unit.now.end = omega (arith, c.loop-place-test.true) in (c.loop-place.invariant.0, le)

pub loop-place-preserved : goal.loop-place-preserved
loop-place-preserved g c =
    let site = c.args.site in (
      omega (arith, c.loop-place.invariant.0),
      kept-on (g.T.Types.atoms c.args.types.now) _ _ c.loop-place.invariant.1 c.place_stands.ensures.kept,
      stand-more site.code.now site.unit.now (station_of site) c.loop-place.place c.loop-place.invariant.2
          (subst (PlaceTells site.code.now site.unit.now (station_of site) c.loop-place.place) c.in_default.is c.in_ok-shape.ensures.told),
    )

pub returns-clause-told : goal.returns-clause-told
returns-clause-told g c = λ q inside. c.loop-place.invariant.2 q inside.0 (omega (arith, inside.1, c.loop-place-test.false))

pub returns-in_err-shape-clause-kept : goal.returns-in_err-shape-clause-kept
returns-in_err-shape-clause-kept g c = kept-on (g.T.Types.atoms c.args.types.now) _ _ c.loop-place.invariant.1 c.place_stands.ensures.kept

pub returns-in_err-shape-clause-limit : goal.returns-in_err-shape-clause-limit
returns-in_err-shape-clause-limit g c =
    let site = c.args.site in
    stops-first site.code.now site.unit.now (station_of site) c.loop-place.place g.T.Types.passes c.args.checking.serving.known.now (c.loop-place.invariant.0, c.loop-place-test.true) c.loop-place.invariant.2 Standing (Option Fallen) _ _
    c.from_residual.ensures c.in_err-shape.ensures.limit

pub returns-in-Falls-clause-kept : goal.returns-in-Falls-clause-kept
returns-in-Falls-clause-kept g c = kept-on (g.T.Types.atoms c.args.types.now) _ _ c.loop-place.invariant.1 c.place_stands.ensures.kept

pub returns-in-Falls-clause-told : goal.returns-in-Falls-clause-told
returns-in-Falls-clause-told g c =
    let site = c.args.site in
    record {
      inside = (c.loop-place.invariant.0, c.loop-place-test.true);
      before = c.loop-place.invariant.2;
      shown = subst (PlaceTells site.code.now site.unit.now (station_of site) c.loop-place.place) c.in-Falls.is c.in_ok-shape.ensures.told;
    }
