use Rattle.std.proofs.Common.{◌∙◌, ap, arith}
use Rattle.worker_pairing.specs.Events.{receives_from}
use Rattle.worker_faults.specs.Routes.{one_if}
use Rattle.worker_faults.proofs.Counted.{counted-all, counted-next}
use Rattle.worker_faults.proofs.counting.count_receives.Goals as goal

pub loop-said-preserved : goal.loop-said-preserved
loop-said-preserved c =
    record {
      few = omega (arith, c.one_if-received.ensures.small, c.loop-said.invariant.few);
      same = counted-next (receives_from c.args.from) c.args.sayings.now c.loop-said.said-index c.loop-said.received _ c.said-item.result c.one_if-received.result (omega arith) c.said-item.is
          (c.one_if-received.ensures.is ∙ ap one_if c.receives_from.ensures) c.loop-said.invariant.same;
    }

pub returns : goal.returns
returns c = counted-all (receives_from c.args.from) c.args.sayings.now c.loop-said.said-index c.loop-said.received _ (omega arith) c.loop-said.invariant.same
