use Rattle.type_diagrams.proofs.Outside.{LeavesOut}
use Rattle.type_diagrams.proofs.simple_shape.text_outside.Given as goal

abbrev pub invariant-loop-text : goal.invariant-loop-text
invariant-loop-text l = LeavesOut l.texts l.text-index l.outside
