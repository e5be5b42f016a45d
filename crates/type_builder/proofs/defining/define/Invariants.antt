use Rattle.type_builder.specs.Keeping.{AreKept}
use Rattle.type_builder.proofs.DefStages.{IsDefinedTo}
use Rattle.type_builder.proofs.defining.define.Given as goal

abbrev pub invariant-loop-site : goal.invariant-loop-site
invariant-loop-site g l =
    (kept : AreKept g.whole l.fn.names.own l.fn.listing.first l.fn.names)
    × IsDefinedTo g.whole l.fn.names.own l.fn.listing.first l.fn.names kept l.site-index l.draft l.before l.names
