use Rattle.std.proofs.Common.{map, take}
use Rattle.bal_base.specs.declared.token.Sign.TheVariants.{Comma}
use Rattle.bal_tree.specs.Pieces.{separated}
use Rattle.bal_tree.specs.Writing.{Writes}
use Rattle.bal_tree.specs.TypePieces.{param_pieces}
use Rattle.bal_tree.proofs.writing.types.param_list.Given as goal

abbrev pub invariant-loop-i : goal.invariant-loop-i
invariant-loop-i l = Writes l.initial.out (separated Comma (map param_pieces (take l.i l.params))) l.out
