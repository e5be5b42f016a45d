use Rattle.std.proofs.Common.{◌∙◌, ap, arith}
use Rattle.worker_pairing.specs.Events.{is_message}
use Rattle.worker_faults.specs.Routes.{one_if}
use Rattle.worker_faults.proofs.Counted.{counted-all, counted-next}
use Rattle.worker_faults.proofs.counting.count_messages.Goals as goal

pub loop-said-preserved : goal.loop-said-preserved
loop-said-preserved c =
    record {
      few = omega (arith, c.one_if-messages.ensures.small, c.loop-said.invariant.few);
      same = counted-next is_message c.args.sayings.now c.loop-said.said-index c.loop-said.messages _ c.said-item.result c.one_if-messages.result (omega arith) c.said-item.is
          (c.one_if-messages.ensures.is ∙ ap one_if c.is_message.ensures) c.loop-said.invariant.same;
    }

pub returns : goal.returns
returns c = counted-all is_message c.args.sayings.now c.loop-said.said-index c.loop-said.messages _ (omega arith) c.loop-said.invariant.same
