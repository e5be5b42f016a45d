use Rattle.std.proofs.Common.{◌∙◌, arith}
use Rattle.assigned_names.proofs.Among.{among-more}
use Rattle.assigned_names.proofs.assigned.in_workers.Goals as goal

pub loop-w-preserved : goal.loop-w-preserved
loop-w-preserved c =
    c.one_of-found.ensures
    ∙ among-more c.args.name.now c.args.workers.now c.loop-w.w-index c.w-item.result c.loop-w.found c.in_ok-here.here (omega arith) c.w-item.is c.loop-w.invariant c.in_ok-here.ensures
