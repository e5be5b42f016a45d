use Rattle.std.proofs.Common.{◌≡◌, ◌≤◌, ◌-◌, ◌∙◌, ℕ, List, None, Some, ap, arith, drop, length, position, subst, sym, take}
use Rattle.std.proofs.lemmas.List.{length-drop, take_all}
use Rattle.machine_model.specs.Outcomes.{IsRing}
use Rattle.plain_run.specs.Held.{common_of}
use Rattle.code_steps.specs.Rings.{IsWay, is_number}
use Rattle.code_steps.proofs.Ringing.{way-begins, way-more, way-returns, way-stops}
use Rattle.code_steps.proofs.stalls.follow.Goals as goal

from-place : (xs : List ℕ) (k : ℕ) → take (length xs - k) (drop k xs) ≡ drop k xs
from-place xs k =
    let size = length-drop k xs in
    let le : length (drop k xs) ≤ length xs - k = omega (arith, size) in
    take_all (length xs - k) (drop k xs) le

pub loop-init : goal.loop-init
loop-init c = subst (λ l. IsWay (common_of c.args.common.now) l 0) (sym c.new-way.ensures.items) (way-begins (common_of c.args.common.now))

pub loop-preserved : goal.loop-preserved
loop-preserved c =
    let held = common_of c.args.common.now in
    let n = c.loop.n in
    let none : position (is_number n) c.loop.way.items ≡ None = ap (position (is_number n)) (sym c.as_slice.ensures.value) ∙ sym c.in_default.ensures in
    subst (λ l. IsWay held l c.in-Some-awaited.next) (sym c.in_ok-push.ensures.items)
    (way-more held c.loop.way.items n c.loop.invariant c.in-Some-awaited.next none (sym c.in-Some-awaited.ensures))

pub returns-in-None : goal.returns-in-None
returns-in-None c = way-stops (common_of c.args.common.now) c.loop.way.items c.loop.n c.loop.invariant (sym c.in-None.ensures)

pub returns-in-Some : goal.returns-in-Some
returns-in-Some c =
    let held = common_of c.args.common.now in
    let n = c.loop.n in
    let place = c.in-Some.place in
    let found : position (is_number n) c.loop.way.items ≡ Some place = ap (position (is_number n)) (sym c.as_slice.ensures.value) ∙ sym c.in-Some.ensures in
    let ring : c.in_ok-from_slice.field-0.items ≡ drop place c.loop.way.items = c.in_ok-from_slice.ensures.items ∙ from-place c.deref.result.now place ∙ ap (drop place) c.deref.ensures.value in
    subst (IsRing held) (sym ring) (way-returns held c.loop.way.items n c.loop.invariant place found)
