use Rattle.std.proofs.Common.{◌∙◌, ap, arith}
use Rattle.worker_pairing.specs.Events.{sends_to}
use Rattle.worker_faults.specs.Routes.{one_if}
use Rattle.worker_faults.proofs.Counted.{counted-all, counted-next}
use Rattle.worker_faults.proofs.counting.count_sends.Goals as goal

pub loop-said-preserved : goal.loop-said-preserved
loop-said-preserved c =
    record {
      few = omega (arith, c.one_if-sent.ensures.small, c.loop-said.invariant.few);
      same = counted-next (sends_to c.args.to) c.args.sayings.now c.loop-said.said-index c.loop-said.sent _ c.said-item.result c.one_if-sent.result (omega arith) c.said-item.is
          (c.one_if-sent.ensures.is ∙ ap one_if c.sends_to.ensures) c.loop-said.invariant.same;
    }

pub returns : goal.returns
returns c = counted-all (sends_to c.args.to) c.args.sayings.now c.loop-said.said-index c.loop-said.sent _ (omega arith) c.loop-said.invariant.same
