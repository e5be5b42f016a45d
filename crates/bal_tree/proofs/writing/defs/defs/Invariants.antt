use Rattle.std.proofs.Common.{map, take}
use Rattle.bal_tree.specs.Pieces.{joined}
use Rattle.bal_tree.specs.Writing.{Writes}
use Rattle.bal_tree.specs.DefPieces.{def_pieces}
use Rattle.bal_tree.proofs.writing.defs.defs.Given as goal

abbrev pub invariant-loop-d : goal.invariant-loop-d
invariant-loop-d l = Writes l.initial.out (joined (map def_pieces (take l.d-index l.defs))) l.out
