use Rattle.bal_base.specs.declared.token.Sign.TheVariants.{Comma}
use Rattle.bal_tree.specs.TypePieces.{param_pieces}
use Rattle.bal_tree.proofs.Adding.{separated-more}
use Rattle.bal_tree.proofs.writing.types.param_list.Goals as goal

pub loop-i-preserved : goal.loop-i-preserved
loop-i-preserved c =
    separated-more param_pieces Comma c.args.params.now c.loop-i.i c.index-params-i.result c.args.out.now c.loop-i.out c.sign_if.new.out c.param.new.out c.loop-i-test.true c.index-params-i.is c.loop-i.invariant c.sign_if.ensures c.param.ensures
