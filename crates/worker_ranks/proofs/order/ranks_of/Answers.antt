use Rattle.std.proofs.Common.{◌+◌, ap, arith, length, subst, sym}
use Rattle.worker_ranks.specs.inner.Vertices.{AreRanks}
use Rattle.worker_ranks.proofs.Placed.{ranks-more}
use Rattle.worker_ranks.proofs.order.ranks_of.Goals as goal

pub loop-number-init : goal.loop-number-init
loop-number-init c = record { long = ap length c.new-ranks.ensures.items; places = λ number lt. absurd (omega (arith, lt)) }

pub loop-number-preserved : goal.loop-number-preserved
loop-number-preserved c =
    subst (λ items. AreRanks c.args.order.now items (c.loop-number.number + 1)) (sym c.in_ok-push.ensures.items)
    (ranks-more c.args.order.now c.loop-number.ranks.items c.loop-number.number c.in_ok-rank.rank c.loop-number.invariant c.in_ok-rank.ensures)
