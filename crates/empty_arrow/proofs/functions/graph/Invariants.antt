use Rattle.std.proofs.Common.{length, take}
use Rattle.type_diagrams.specs.Whole.{Extends}
use Rattle.empty_arrow.specs.Graphs.{AreCases}
use Rattle.empty_arrow.proofs.functions.graph.Given as goal

abbrev pub invariant-loop-atom : goal.invariant-loop-atom
invariant-loop-atom g l =
    Extends (length l.context.env.now) l.fn.dia l.dia × AreCases l.context.env.now l.wanted (take l.atom-index l.unwanted) l.cases.items
