use Rattle.std.proofs.Common.{take}
use Rattle.graphs.specs.Ordering.{IsOrder}
use Rattle.name_resolution.specs.Outlines.{outlines_of}
use Rattle.name_resolution.specs.Resolved.{parts}
use Rattle.type_builder.specs.Passes.{end_of}
use Rattle.type_builder.proofs.KeptStages.{IsStage}
use Rattle.type_builder.proofs.keeping.kept_types.Given as goal

abbrev pub ghost-first_names : goal.ghost-first_names
ghost-first_names g a = g.whole

abbrev pub invariant-loop-number : goal.invariant-loop-number
invariant-loop-number g l =
    IsOrder (parts (outlines_of g.whole)) l.order
    × IsStage g.whole l.fn.own l.fn.listing.first (end_of l.fn.listing.first g.whole) (take l.number-index l.order) l.names
