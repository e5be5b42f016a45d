use Rattle.std.specs.Prelude.{◌+◌, take}
use Rattle.std.specs.List.{sum_by}
use Rattle.plain_stores.proofs.Leaving.{take-more, taken-all}
use Rattle.plain_stores.specs.Changes.{filler_cells}
use Rattle.plain_stores.proofs.made.less_all.Goals as goal

pub loop-f-preserved : goal.loop-f-preserved
loop-f-preserved c = λ room taken h.
    take-more (filler_cells c.args.facts.now) c.args.fillers.now c.loop-f.f-index c.f-item.result room taken c.less_one-left.result c.loop-f-test.true c.f-item.is
    (c.less_one-left.ensures room (taken + sum_by (filler_cells c.args.facts.now) (take c.loop-f.f-index c.args.fillers.now)) (c.loop-f.invariant room taken h))

pub returns : goal.returns
returns c = λ room taken h. taken-all (filler_cells c.args.facts.now) c.args.fillers.now c.loop-f.f-index room taken c.loop-f.left c.loop-f-test.false (c.loop-f.invariant room taken h)
