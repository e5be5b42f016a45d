use Rattle.std.proofs.Common.{arith, map, rules}
use Rattle.worker_ranks.proofs.NotOnCycle.{none-at-all}
use Rattle.worker_ranks.proofs.Ringed.{none-before-next}
use Rattle.worker_ranks.proofs.rings.first_on_cycle.Goals as goal

pub loop-first-init : goal.loop-first-init
loop-first-init c = record { free = c.in_ok-freed.ensures; none = λ i lt. absurd (omega (arith, lt)) }

pub loop-first-preserved : goal.loop-first-preserved
loop-first-preserved c =
    record {
      free = c.in_ok-on.ensures.free;
      none = none-before-next c.loop-first.first c.loop-first.invariant.none (c.in_ok-on.ensures.none c.if-on.false);
    }

pub returns-then-on : goal.returns-then-on
returns-then-on c = (c.loop-first.invariant.none, c.in_ok-on.ensures.cycle c.if-on.true)

pub unreachable-requires : goal.unreachable-requires
unreachable-requires c =
    c.requires.cyclic (none-at-all (map (λ v. v.items) c.args.next.now) (λ v. v.items) c.args.back.now c.loop-first.first c.requires.reversed (search rules) c.loop-first.invariant.none)
