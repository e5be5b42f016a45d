use Rattle.std.proofs.Common.{◌≡◌, ◌∙◌, ◌+◌, ◌-◌, ◌≤◌, true, false, ap, sym, rules, arith}
use Rattle.std.specs.List.{list_all}
use Rattle.op_model.specs.Fillers.{filler_at, fillers_from}
use Rattle.store_tests.specs.Fillers.{is_there}
use Rattle.store_tests.proofs.Gapped.{all-missing, all-more, from-none}
use Rattle.store_tests.proofs.gaps.are_there.Goals as goal

pub loop-place-init : goal.loop-place-init
loop-place-init c =
    let few : c.args.first - c.args.first ≤ c.args.end - c.args.first = omega arith in
    (few, ap (list_all is_there) (from-none c.args.fillers.now c.args.first))

pub returns-then-not-is_filler : goal.returns-then-not-is_filler
returns-then-not-is_filler c =
    let missing : is_there (filler_at c.args.fillers.now c.loop-place.place) ≡ false = search rules in
    all-missing c.args.fillers.now c.args.first c.loop-place.place c.args.end c.loop-place.auto.place c.loop-place-test.true missing

pub loop-place-preserved : goal.loop-place-preserved
loop-place-preserved c =
    let l = c.loop-place-test.true in
    let few : c.loop-place.place + 1 - c.args.first ≤ c.args.end - c.args.first = omega (arith, l) in
    let there : is_there (filler_at c.args.fillers.now c.loop-place.place) ≡ true = search rules in
    (few, all-more c.args.fillers.now c.args.first c.loop-place.place c.loop-place.auto.place c.loop-place.invariant.1 there)

pub returns : goal.returns
returns c =
    let l = c.loop-place.invariant.0 in
    let m = c.loop-place-test.false in
    let e : c.loop-place.place - c.args.first ≡ c.args.end - c.args.first = omega (arith, l, m) in
    sym (ap (λ n. list_all is_there (fillers_from c.args.fillers.now c.args.first n)) (sym e) ∙ c.loop-place.invariant.1)
