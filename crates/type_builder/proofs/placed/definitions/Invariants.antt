use Rattle.std.proofs.Common.{◌≡◌, take}
use Rattle.name_resolution.specs.Definitions.{in_modules}
use Rattle.type_builder.specs.Listing.{IsListing}
use Rattle.type_builder.proofs.placed.definitions.Given as goal

abbrev pub invariant-loop-module : goal.invariant-loop-module
invariant-loop-module l = IsListing (in_modules 0 (take l.«module» l.«package».modules)) l.out × (l.out.first ≡ l.initial.first)
