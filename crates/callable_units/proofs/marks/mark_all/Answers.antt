use Rattle.std.proofs.Common.{◌≡◌, ◌<◌, ◌∙◌, ℕ, arith, length}
use Rattle.std.proofs.lemmas.List.{get_or_default}
use Rattle.callable_units.proofs.Marking.{marks-all, marks-more, marks-none, set-marks}
use Rattle.callable_units.proofs.marks.mark_all.Goals as goal

pub loop-k-init : goal.loop-k-init
loop-k-init c = marks-none (λ (m : ℕ) (n : ℕ). m ≡ n) c.args.numbers.now _

pub loop-k-preserved : goal.loop-k-preserved
loop-k-preserved c =
    let within : c.loop-k.k < length c.args.numbers.now = omega (arith, c.loop-k-test.true) in
    let is = c.number_at-n.ensures ∙ get_or_default c.args.numbers.now c.loop-k.k 0 c.number_at-n.result within in
    marks-more (λ (m : ℕ) (n : ℕ). m ≡ n) c.args.numbers.now c.loop-k.k c.number_at-n.result _ _ _ within is c.loop-k.invariant (set-marks _ _ _ c.mark.ensures)

pub returns : goal.returns
returns c = marks-all (λ (m : ℕ) (n : ℕ). m ≡ n) c.args.numbers.now c.loop-k.k _ _ (omega (arith, c.loop-k-test.false)) c.loop-k.invariant
