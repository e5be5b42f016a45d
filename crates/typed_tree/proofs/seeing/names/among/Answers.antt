use Rattle.std.proofs.Common.{arith}
use Rattle.typed_tree.specs.Skeleton.{number_of}
use Rattle.typed_tree.proofs.Waited.{those_there-more}
use Rattle.typed_tree.proofs.seeing.names.among.Goals as goal

pub loop-q-preserved : goal.loop-q-preserved
loop-q-preserved c =
    those_there-more (number_of c.args.workers.now) c.args.names.now c.loop-q.q-index c.q-item.result c.in_ok-number.number c.loop-q.numbers.items c.add.new.numbers.items (grind (arith, c.loop-q-test.true)) c.q-item.is c.loop-q.invariant c.in_ok-number.ensures c.in_ok-add.ensures
