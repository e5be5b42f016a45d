use Rattle.inherent_atoms.proofs.Filling.{Filling}
use Rattle.inherent_atoms.proofs.fillers.fill.Given as goal

abbrev pub invariant-loop-done : goal.invariant-loop-done
invariant-loop-done l = Filling l.defs l.fn.found l.found l.done
