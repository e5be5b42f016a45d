use Rattle.std.proofs.Common.{◌≤◌, ◌<◌, ℕ}
use Rattle.needs_of_places.specs.Sites.{station_of}
use Rattle.place_numbers.specs.inner.Parts.{IsReached, LandsWith}
use Rattle.place_numbers.proofs.thrown.has_tallies.Given as goal

abbrev pub invariant-loop-place : goal.invariant-loop-place
invariant-loop-place l =
    (l.site.unit.now.first ≤ l.place)
    × ((q : ℕ) → q < l.place → l.site.unit.now.first ≤ q → IsReached l.site.code.now l.site.unit.now (station_of l.site) q l.trap → LandsWith l.site.code.now l.site.unit.now (station_of l.site) q l.to)
