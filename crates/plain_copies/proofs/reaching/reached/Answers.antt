use Rattle.std.proofs.Common.{◌∙◌, ◌++◌, flat_map, sym, ap, arith}
use Rattle.op_model.specs.Copies.{mutable_members}
use Rattle.op_model.specs.Levels.{distinct}
use Rattle.plain_run.specs.Held.{heap_of}
use Rattle.plain_copies.proofs.Resting.{levels-rest}
use Rattle.plain_copies.proofs.reaching.reached.Goals as goal

pub returns-then-are_same : goal.returns-then-are_same
returns-then-are_same c =
    let kids = mutable_members (heap_of c.args.heap.now) in
    let found = c.loop-level.found.items in
    let same = c.are_same.ensures c.if-are_same.true in
    let next = c.in_ok-next.ensures in
    levels-rest distinct kids c.args.roots.now found c.loop-level._level c.loop-level.invariant
    (sym (c.as_slice-in-loop-level-2.ensures.value) ∙ (sym same ∙ (c.as_slice-in-loop-level.ensures.value ∙ (next ∙ ap (λ xs. distinct (c.args.roots.now ++ flat_map kids xs)) c.as_slice.ensures.value))))
    c.args.depth (let lt = c.loop-level-test.true in omega (arith, lt))
