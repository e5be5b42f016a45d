use Rattle.std.proofs.Common.{arith}
use Rattle.unit_crews.proofs.Noting.{functions-next, notes-so}
use Rattle.unit_crews.proofs.crews.Crews.note_functions.Goals as goal

pub loop-f-preserved : goal.loop-f-preserved
loop-f-preserved c =
    functions-next c.args.functions.now c.loop-f.f-index c.f-item.result _ _ _ (grind (arith, c.loop-f-test.true)) c.f-item.is c.loop-f.invariant
    (notes-so _ _ _ _ _ _ c.in_ok-count.ensures c.workers_in.ensures c.in_ok-note_workers.ensures)
