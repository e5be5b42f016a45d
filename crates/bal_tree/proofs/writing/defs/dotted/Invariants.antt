use Rattle.std.proofs.Common.{map, take}
use Rattle.bal_base.specs.declared.token.Sign.TheVariants.{Dot}
use Rattle.bal_tree.specs.Pieces.{behind}
use Rattle.bal_tree.specs.Writing.{Writes}
use Rattle.bal_tree.specs.NamePieces.{word_pieces}
use Rattle.bal_tree.proofs.writing.defs.dotted.Given as goal

abbrev pub invariant-loop-w : goal.invariant-loop-w
invariant-loop-w l = Writes l.initial.out (behind Dot (map word_pieces (take l.w-index l.words))) l.out
