use Rattle.std.proofs.Common.{◌≡◌, drop, map}
use Rattle.type_builder.specs.Listing.{first_main, placed_of}
use Rattle.type_builder.proofs.main_function.main_listed.Given as goal

abbrev pub invariant-loop-site : goal.invariant-loop-site
invariant-loop-site l = first_main l.home (map placed_of l.sites) ≡ first_main l.home (map placed_of (drop l.site-index l.sites))
