use Rattle.std.proofs.Common.{◌≡◌, ◌∙◌, ◌+◌, ◌-◌, ◌≤◌, ◌++◌, ◌∷◌, [], ap, sym, rules, arith}
use Rattle.op_model.specs.Fillers.{filler_at, fillers_from}
use Rattle.store_tests.proofs.Gapped.{from-more, from-none}
use Rattle.store_tests.proofs.gaps.fillers_from.Goals as goal

pub loop-place-init : goal.loop-place-init
loop-place-init c =
    let few : c.args.first - c.args.first ≤ c.args.end - c.args.first = omega arith in
    (few, c.new-all.ensures.items ∙ sym (from-none c.args.fillers.now c.args.first))

pub loop-place-preserved : goal.loop-place-preserved
loop-place-preserved c =
    let l = c.loop-place-test.true in
    let few : c.loop-place.place + 1 - c.args.first ≤ c.args.end - c.args.first = omega (arith, l) in
    let pushed : c.push.new.self.items ≡ c.loop-place.all.items ++ filler_at c.args.fillers.now c.loop-place.place ∷ [] = search rules in
    (few, pushed ∙ (ap (λ xs. xs ++ filler_at c.args.fillers.now c.loop-place.place ∷ []) c.loop-place.invariant.1 ∙ sym (from-more c.args.fillers.now c.args.first c.loop-place.place c.loop-place.auto.place)))

pub returns : goal.returns
returns c =
    let l = c.loop-place.invariant.0 in
    let m = c.loop-place-test.false in
    let e : c.loop-place.place - c.args.first ≡ c.args.end - c.args.first = omega (arith, l, m) in
    c.loop-place.invariant.1 ∙ ap (fillers_from c.args.fillers.now c.args.first) e
