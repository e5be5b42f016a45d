use Rattle.std.proofs.Common.{◌≡◌, ◌∙◌, ◌+◌, map, ap, arith}
use Rattle.std.proofs.lemmas.List.{take_all}
use Rattle.op_model.specs.Fillers.{filler_structures}
use Rattle.plain_run.specs.Held.{structure_of}
use Rattle.store_tests.specs.Fillers.{fixed_of}
use Rattle.plain_stores.proofs.Levels.{kids-more, structures-more}
use Rattle.plain_stores.proofs.made.structures.Goals as goal

pub loop-f-init : goal.loop-f-init
loop-f-init c = let e : c.args.first ≡ c.args.first + 0 = omega arith in (e, ap (map structure_of) c.new-made.ensures.items)

pub loop-f-preserved : goal.loop-f-preserved
loop-f-preserved c =
    let facts = c.args.facts.now in
    let fs = c.args.fillers.now in
    let i = c.loop-f.f-index in
    let f = c.f-item.result in (
      kids-more facts c.args.first fs i f c.loop-f.next c.in_ok-next.next c.loop-f-test.true c.f-item.is c.loop-f.invariant.0 c.in_ok-next.ensures.next,
      structures-more facts c.args.first fs i f c.loop-f.next (map structure_of c.loop-f.made.items) (map structure_of c.push_made.new.made.items) c.loop-f-test.true c.f-item.is c.loop-f.invariant.0 c.loop-f.invariant.1 c.in_ok-next.ensures.structures,
    )

pub returns : goal.returns
returns c =
    c.loop-f.invariant.1 ∙ ap (filler_structures (fixed_of c.args.facts.now) c.args.first) (take_all c.loop-f.f-index c.args.fillers.now c.loop-f-test.false)
