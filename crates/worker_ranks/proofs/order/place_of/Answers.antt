use Rattle.std.proofs.Common.{arith, get_or, rules}
use Rattle.std.proofs.lemmas.List.{get_or_default}
use Rattle.worker_ranks.proofs.Placed.{first-place, not-yet-next}
use Rattle.worker_ranks.proofs.order.place_of.Goals as goal

pub loop-other-init : goal.loop-other-init
loop-other-init c = (search rules, λ other lt. absurd (omega (arith, lt)))

pub loop-other-preserved : goal.loop-other-preserved
loop-other-preserved c =
    let i = c.loop-other.other-index in
    let n = get_or c.args.order.now i 0 in
    (omega (arith, c.loop-other.invariant.0), not-yet-next c.args.order.now c.args.number i n (omega arith) (get_or_default c.args.order.now i 0 n (omega arith)) (λ e. omega (arith, e)) c.loop-other.invariant.1)

pub returns-then-other-number : goal.returns-then-other-number
returns-then-other-number c =
    let i = c.loop-other.other-index in
    let n = get_or c.args.order.now i 0 in
    first-place c.args.order.now c.args.number i n (omega arith) (get_or_default c.args.order.now i 0 n (omega arith)) c.loop-other.place c.loop-other.invariant.0 (omega arith) c.loop-other.invariant.1
