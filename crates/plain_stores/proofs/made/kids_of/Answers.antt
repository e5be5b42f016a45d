use Rattle.std.proofs.Common.{◌≡◌, ◌∙◌, ◌++◌, ap, rules}
use Rattle.std.specs.Prelude.{flat_map}
use Rattle.std.proofs.lemmas.List.{take_all}
use Rattle.plain_stores.specs.Changes.{kids}
use Rattle.plain_stores.proofs.Levels.{all-kids-more}
use Rattle.plain_stores.proofs.made.kids_of.Goals as goal

pub loop-f-init : goal.loop-f-init
loop-f-init c = c.new-all.ensures.items

pub loop-f-preserved : goal.loop-f-preserved
loop-f-preserved c =
    let more : c.push_new.new.new.items ≡ c.loop-f.all.items ++ kids c.args.facts.now c.f-item.result = search rules in
    all-kids-more c.args.facts.now c.args.level.now c.loop-f.f-index c.f-item.result c.loop-f.all.items c.push_new.new.new.items c.loop-f-test.true c.f-item.is c.loop-f.invariant more

pub returns : goal.returns
returns c = c.loop-f.invariant ∙ ap (flat_map (kids c.args.facts.now)) (take_all c.loop-f.f-index c.args.level.now c.loop-f-test.false)
