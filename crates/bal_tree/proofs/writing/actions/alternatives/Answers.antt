use Rattle.bal_base.specs.declared.token.Sign.TheVariants.{Bar}
use Rattle.bal_tree.specs.NamePieces.{name_pieces}
use Rattle.bal_tree.proofs.Adding.{separated-more}
use Rattle.bal_tree.proofs.writing.actions.alternatives.Goals as goal

pub loop-i-preserved : goal.loop-i-preserved
loop-i-preserved c =
    separated-more name_pieces Bar c.args.names.now c.loop-i.i c.index-names-i.result c.args.out.now c.loop-i.out c.sign_if.new.out c.name.new.out c.loop-i-test.true c.index-names-i.is c.loop-i.invariant c.sign_if.ensures c.name.ensures
