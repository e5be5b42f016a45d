use Rattle.std.proofs.Common.{arith}
use Rattle.unit_crews.proofs.Noting.{workers-next}
use Rattle.unit_crews.proofs.crews.Crews.note_workers.Goals as goal

pub loop-w-preserved : goal.loop-w-preserved
loop-w-preserved c =
    workers-next c.args.count c.args.workers.now c.loop-w.w-index c.w-item.result _ _ _ (grind (arith, c.loop-w-test.true)) c.w-item.is c.loop-w.invariant c.in_ok-note.ensures
