use Rattle.std.proofs.Common.{◌∙◌, ◌++◌, sym, ap}
use Rattle.std.proofs.lemmas.List.{append-nil, take_all}
use Rattle.op_model.specs.Fillers.{new_ones}
use Rattle.store_tests.proofs.Gapped.{ones-more}
use Rattle.store_tests.proofs.gaps.push_new.Goals as goal

pub loop-f-init : goal.loop-f-init
loop-f-init c = sym (append-nil c.args.new.now.items)

pub loop-f-preserved : goal.loop-f-preserved
loop-f-preserved c =
    ones-more c.args.fillers.now c.loop-f.f-index c.f-item.result c.args.new.now.items c.loop-f.new.items c.push_if_new.new.new.items c.loop-f-test.true c.f-item.is c.loop-f.invariant c.in_ok-push_if_new.ensures

pub returns : goal.returns
returns c = c.loop-f.invariant ∙ ap (λ l. c.args.new.now.items ++ new_ones l) (take_all c.loop-f.f-index c.args.fillers.now c.loop-f-test.false)
