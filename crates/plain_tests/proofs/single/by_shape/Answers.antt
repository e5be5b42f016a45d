use Rattle.std.proofs.Common.{subst}
use Rattle.plain_run.specs.Held.{heap_of}
use Rattle.plain_tests.specs.Shapes.{FindsShape}
use Rattle.plain_tests.proofs.Telling.{shape_told}
use Rattle.plain_tests.proofs.single.by_shape.Goals as goal

pub returns-in-Some : goal.returns-in-Some
returns-in-Some c =
    let h = heap_of c.args.heap.now in
    let v = c.args.v.now in
    shape_told h c.args.env.now v c.args.t.now c.in-Some.shape c.holds.result (subst (FindsShape h v) c.in-Some.is c.in_ok-one_shape.ensures) c.holds.ensures
