use Rattle.type_diagrams.proofs.Combined.{ArePartsOf}
use Rattle.type_diagrams.proofs.diagrams.Diagrams.made.Given as goal

abbrev pub invariant-loop-kind : goal.invariant-loop-kind
invariant-loop-kind l = ArePartsOf l.fn.self l.operation l.left l.right l.self l.kind-index l.made
