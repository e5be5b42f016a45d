use Rattle.needs_of_rows.proofs.Paired.{taken-more}
use Rattle.needs_of_rows.proofs.structures.taken_pairs.Goals as goal

pub loop-k-preserved : goal.loop-k-preserved
loop-k-preserved c =
    taken-more c.loop-k.k c.args.operands.now c.loop-k.taken.items c.push.new.self.items c.pair_at.result c.pair_at.ensures.key c.pair_at.ensures.value c.loop-k.invariant c.in_ok-push.ensures.items
