use Rattle.std.proofs.Common.{arith}
use Rattle.needs_of_places.specs.inner.Held.{held_in}
use Rattle.needs_of_places.specs.Sites.{known_at}
use Rattle.needs_of_places.proofs.Awaiting.{awaits-end, awaits-more, awaits-none}
use Rattle.needs_of_places.proofs.waits.awaits.Goals as goal

pub loop-k-init : goal.loop-k-init
loop-k-init c = awaits-none (known_at c.args.site) (held_in c.args.held) c.args.names.now c.args.taken.operands.now _

pub loop-k-preserved : goal.loop-k-preserved
loop-k-preserved c =
    awaits-more (known_at c.args.site) (held_in c.args.held) c.args.names.now c.args.taken.operands.now c.loop-k.k c.name_at.result _ _ _ _ _ _ c.name_at.ensures c.loop-k.invariant
    c.held_at.ensures c.awaited-left.ensures

pub returns : goal.returns
returns c =
    awaits-end (known_at c.args.site) (held_in c.args.held) c.args.names.now c.args.taken.operands.now c.loop-k.k _ _ _ _ (omega arith) c.loop-k.invariant c.none.ensures
