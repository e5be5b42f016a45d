use Rattle.std.proofs.Common.{◌≡◌, take, map}
use Rattle.name_resolution.specs.Excerpts.{picked}
use Rattle.name_resolution.specs.Reached.{is_reached}
use Rattle.type_builder.specs.Listing.{IsListing, placed_of}
use Rattle.type_builder.proofs.placed.excerpt_definitions.Given as goal

abbrev pub invariant-loop-number : goal.invariant-loop-number
invariant-loop-number l = IsListing (picked (is_reached l.excerpt.away.items) 0 (take l.number (map placed_of l.site-items))) l.out × (l.out.first ≡ l.initial.first)
