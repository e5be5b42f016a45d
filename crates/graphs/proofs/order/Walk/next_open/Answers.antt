use Rattle.std.proofs.Common.{get_or}
use Rattle.graphs.proofs.Walking.{all-done, all-within, one-done}
use Rattle.graphs.proofs.order.Walk.next_open.Goals as goal

pub loop-place-preserved : goal.loop-place-preserved
loop-place-preserved c = λ order done before.
    let parts = c.args.parts.now in
    let place = c.loop-place.place in
    one-done order parts place c.loop-place-test.true (c.loop-place.invariant order done before) (done (get_or parts place 0) (c.is_done.ensures.0 c.if-not-is_done.false))

pub returns-clause-before : goal.returns-clause-before
returns-clause-before c = λ order done before.
    let parts = c.args.parts.now in
    all-within order parts (all-done order parts c.loop-place.place c.loop-place-test.false (c.loop-place.invariant order done before))
