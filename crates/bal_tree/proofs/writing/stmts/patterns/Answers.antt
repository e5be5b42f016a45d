use Rattle.bal_base.specs.declared.token.Sign.TheVariants.{Bar}
use Rattle.bal_tree.specs.StmtPieces.{pattern_pieces}
use Rattle.bal_tree.proofs.Adding.{separated-more}
use Rattle.bal_tree.proofs.writing.stmts.patterns.Goals as goal

pub loop-i-preserved : goal.loop-i-preserved
loop-i-preserved c =
    separated-more pattern_pieces Bar c.args.patterns.now c.loop-i.i c.index-patterns-i.result c.args.out.now c.loop-i.out c.sign_if.new.out c.pattern.new.out c.loop-i-test.true c.index-patterns-i.is c.loop-i.invariant c.sign_if.ensures c.pattern.ensures
