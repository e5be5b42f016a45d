use Rattle.std.proofs.Common.{arith}
use Rattle.typed_tree.specs.Skeleton.{number_of_member}
use Rattle.typed_tree.proofs.Waited.{those_there-more}
use Rattle.typed_tree.proofs.seeing.names.among_members.Goals as goal

pub loop-m-preserved : goal.loop-m-preserved
loop-m-preserved c =
    those_there-more (number_of_member c.args.workers.now) c.args.members.now c.loop-m.m-index c.m-item.result c.in_ok-number.number c.loop-m.numbers.items c.add.new.numbers.items (grind (arith, c.loop-m-test.true)) c.m-item.is c.loop-m.invariant c.in_ok-number.ensures c.in_ok-add.ensures
