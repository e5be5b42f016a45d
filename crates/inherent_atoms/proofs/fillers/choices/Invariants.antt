use Rattle.std.proofs.Common.{take}
use Rattle.std.specs.Prelude.{flat_map}
use Rattle.inherent_atoms.specs.Fillers.{choice_of}
use Rattle.inherent_atoms.specs.Found.{Notes}
use Rattle.inherent_atoms.proofs.fillers.choices.Given as goal

abbrev pub invariant-loop-t : goal.invariant-loop-t
invariant-loop-t l = Notes (flat_map choice_of (take l.t-index l.types)) l.fn.found l.found
