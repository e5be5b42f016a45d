use Rattle.std.proofs.Common.{arith}
use Rattle.bal_tree.specs.DefPieces.{def_pieces}
use Rattle.bal_tree.proofs.Adding.{joined-more}
use Rattle.bal_tree.proofs.writing.defs.defs.Goals as goal

pub loop-d-preserved : goal.loop-d-preserved
loop-d-preserved c =
    joined-more def_pieces c.args.defs.now c.loop-d.d-index c.d-item.result c.args.out.now c.loop-d.out c.def.new.out (grind (arith, c.loop-d-test.true)) c.d-item.is c.loop-d.invariant c.def.ensures
