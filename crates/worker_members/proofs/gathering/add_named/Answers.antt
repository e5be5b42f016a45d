use Rattle.std.proofs.Common.{arith}
use Rattle.worker_members.proofs.Whole.{members-next}
use Rattle.worker_members.proofs.gathering.add_named.Goals as goal

pub loop-w-preserved : goal.loop-w-preserved
loop-w-preserved c =
    members-next c.loop-w.members.items c.push.new.self.items _ c.args.workers.now c.loop-w.w-index c.w-item.result c.in_ok-member.member (grind (arith, c.loop-w-test.true)) c.w-item.is
    c.in_ok-member.ensures c.in_ok-push.ensures.items c.loop-w.invariant
