use Rattle.std.proofs.Common.{map, take}
use Rattle.bal_tree.specs.Pieces.{joined}
use Rattle.bal_tree.specs.Writing.{Writes}
use Rattle.bal_tree.specs.DefPieces.{worker_pieces}
use Rattle.bal_tree.proofs.writing.defs.workers.Given as goal

abbrev pub invariant-loop-w : goal.invariant-loop-w
invariant-loop-w l = Writes l.initial.out (joined (map worker_pieces (take l.w-index l.workers))) l.out
