use Rattle.std.proofs.Common.{arith}
use Rattle.bal_tree.specs.DefPieces.{import_pieces}
use Rattle.bal_tree.proofs.Adding.{joined-more}
use Rattle.bal_tree.proofs.writing.defs.imports.Goals as goal

pub loop-i-preserved : goal.loop-i-preserved
loop-i-preserved c =
    joined-more import_pieces c.args.imports.now c.loop-i.i-index c.i-item.result c.args.out.now c.loop-i.out c.import.new.out (grind (arith, c.loop-i-test.true)) c.i-item.is c.loop-i.invariant c.import.ensures
