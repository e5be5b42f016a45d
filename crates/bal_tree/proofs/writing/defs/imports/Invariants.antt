use Rattle.std.proofs.Common.{map, take}
use Rattle.bal_tree.specs.Pieces.{joined}
use Rattle.bal_tree.specs.Writing.{Writes}
use Rattle.bal_tree.specs.DefPieces.{import_pieces}
use Rattle.bal_tree.proofs.writing.defs.imports.Given as goal

abbrev pub invariant-loop-i : goal.invariant-loop-i
invariant-loop-i l = Writes l.initial.out (joined (map import_pieces (take l.i-index l.imports))) l.out
