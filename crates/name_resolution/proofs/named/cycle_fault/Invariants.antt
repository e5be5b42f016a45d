use Rattle.std.proofs.Common.{◌≡◌, ◌∷◌, take}
use Rattle.name_resolution.specs.Faults.{names_of}
use Rattle.name_resolution.proofs.named.cycle_fault.Given as goal

abbrev pub invariant-loop-other : goal.invariant-loop-other
invariant-loop-other l = l.names.items ≡ names_of l.outlines (l.number ∷ take l.other-index l.others)
