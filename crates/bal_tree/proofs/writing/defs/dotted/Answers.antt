use Rattle.std.proofs.Common.{arith}
use Rattle.bal_base.specs.declared.token.Sign.TheVariants.{Dot}
use Rattle.bal_tree.specs.NamePieces.{word_pieces}
use Rattle.bal_tree.proofs.Adding.{behind-more}
use Rattle.bal_tree.proofs.writing.defs.dotted.Goals as goal

pub loop-w-preserved : goal.loop-w-preserved
loop-w-preserved c =
    behind-more word_pieces Dot c.args.words.now c.loop-w.w-index c.w-item.result c.args.out.now c.loop-w.out c.next_word.new.out (grind (arith, c.loop-w-test.true)) c.w-item.is c.loop-w.invariant c.next_word.ensures
