use Rattle.std.proofs.Common.{◌<◌, get_or, length, sym, arith, take}
use Rattle.std.proofs.lemmas.List.{get_or_default}
use Rattle.graphs.proofs.Greedy.{nearest-more, none-nearest}
use Rattle.graphs.proofs.cycles.nearest.Goals as goal

pub loop-number-init : goal.loop-number-init
loop-number-init c = none-nearest c.args.away.now

pub loop-number-preserved : goal.loop-number-preserved
loop-number-preserved c =
    let i = c.loop-number.number-index in
    let lt : i < length c.args.numbers.now = grind (arith, c.loop-number-test.true) in
    let x = get_or c.args.numbers.now i 0 in
    nearest-more c.args.away.now c.args.numbers.now i x c.loop-number.nearest c.nearer-nearest.result lt (get_or_default c.args.numbers.now i 0 x lt) c.loop-number.invariant
    (λ is. c.nearer-nearest.ensures c.args.away.now (take i c.args.numbers.now) is (sym c.distance.ensures))
