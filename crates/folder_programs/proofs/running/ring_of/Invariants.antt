use Rattle.std.proofs.Common.{◌≡◌, take}
use Rattle.folder_programs.proofs.running.ring_of.Given as goal

abbrev pub invariant-loop-n : goal.invariant-loop-n
invariant-loop-n l = l.ring.items ≡ take l.n-index l.strands
