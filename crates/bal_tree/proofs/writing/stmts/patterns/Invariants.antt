use Rattle.std.proofs.Common.{map, take}
use Rattle.bal_base.specs.declared.token.Sign.TheVariants.{Bar}
use Rattle.bal_tree.specs.Pieces.{separated}
use Rattle.bal_tree.specs.Writing.{Writes}
use Rattle.bal_tree.specs.StmtPieces.{pattern_pieces}
use Rattle.bal_tree.proofs.writing.stmts.patterns.Given as goal

abbrev pub invariant-loop-i : goal.invariant-loop-i
invariant-loop-i l = Writes l.initial.out (separated Bar (map pattern_pieces (take l.i l.patterns))) l.out
