use Rattle.std.proofs.Common.{◌≡◌, ◌∙◌, ◌+◌, length, ap, arith}
use Rattle.std.proofs.lemmas.List.{take_all}
use Rattle.op_model.specs.Fillers.{filler_values, new_ones}
use Rattle.plain_stores.proofs.Values.{new-more, values-more}
use Rattle.plain_stores.proofs.filling.values_of.Goals as goal

pub loop-f-init : goal.loop-f-init
loop-f-init c = let e : c.args.first ≡ c.args.first + 0 = omega arith in (e, c.new-values.ensures.items)

pub loop-f-preserved : goal.loop-f-preserved
loop-f-preserved c =
    let fs = c.args.fillers.now in
    let i = c.loop-f.f-index in
    let f = c.f-item.result in (
      new-more c.args.first fs i f c.loop-f.next c.in_ok-next.next c.loop-f-test.true c.f-item.is c.loop-f.invariant.0 c.in_ok-next.ensures.next,
      values-more c.args.first fs i f c.loop-f.next c.loop-f.values.items c.push_value.new.values.items c.loop-f-test.true c.f-item.is c.loop-f.invariant.0 c.loop-f.invariant.1 c.in_ok-next.ensures.values,
    )

pub returns-clause-values : goal.returns-clause-values
returns-clause-values c = c.loop-f.invariant.1 ∙ ap (filler_values c.args.first) (take_all c.loop-f.f-index c.args.fillers.now c.loop-f-test.false)

pub returns-clause-next : goal.returns-clause-next
returns-clause-next c = c.loop-f.invariant.0 ∙ ap (λ l. c.args.first + length (new_ones l)) (take_all c.loop-f.f-index c.args.fillers.now c.loop-f-test.false)
