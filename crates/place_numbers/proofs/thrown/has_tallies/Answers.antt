use Rattle.std.proofs.Common.{◌≤◌, ◌∙◌, arith, refl, sym}
use Rattle.std.proofs.lemmas.Bool.{false≢true}
use Rattle.needs_of_places.specs.Sites.{station_of}
use Rattle.place_numbers.specs.inner.Parts.{IsReached, LandsWith}
use Rattle.place_numbers.proofs.Counted.{one-further}
use Rattle.place_numbers.proofs.thrown.has_tallies.Goals as goal

pub loop-place-init : goal.loop-place-init
loop-place-init c = (omega arith, (λ q lt le. absurd (omega (arith, lt, le))))

pub lands_so-requires-clause-rowed : goal.lands_so-requires-clause-rowed
lands_so-requires-clause-rowed c = (c.loop-place.invariant.0, omega (arith, c.loop-place-test.true))

pub returns-then-not-lands_so : goal.returns-then-not-lands_so
returns-then-not-lands_so c = (
  (λ t. absurd (false≢true t)),
  (λ h. absurd (false≢true (sym c.if-not-lands_so.true ∙ c.lands_so.ensures.1 (h c.loop-place.place (c.loop-place.invariant.0, c.loop-place-test.true))))),
)

pub loop-place-preserved : goal.loop-place-preserved
loop-place-preserved c =
    let site = c.args.site in (
      omega (arith, c.loop-place.invariant.0),
      one-further (λ q. site.unit.now.first ≤ q → IsReached site.code.now site.unit.now (station_of site) q c.args.trap → LandsWith site.code.now site.unit.now (station_of site) q c.args.to) c.loop-place.place c.loop-place.invariant.1
          (λ le. c.lands_so.ensures.0 c.if-not-lands_so.false),
    )

pub returns : goal.returns
returns c = (
  (λ t q inside. c.loop-place.invariant.1 q (omega (arith, inside.1, c.loop-place-test.false)) inside.0),
  (λ h. refl),
)
