use Rattle.std.proofs.Common.{◌≡◌, ◌<◌, ◌∙◌, List, ap, arith, length, slice_get, sym}
use Rattle.stack_code.specs.declared.code.Unit.{Unit as CodeUnit}
use Rattle.stack_code.specs.Tables.{IsCallable}
use Rattle.callable_units.proofs.Called.{get-there, rows-more, rows-tell}
use Rattle.callable_units.proofs.callable.rows_by.Goals as goal

pub loop-number-init : goal.loop-number-init
loop-number-init c = λ code are few same. (ap length c.new-rows.ensures.items, (λ n lt. absurd (omega (arith, lt))))

pub loop-number-preserved : goal.loop-number-preserved
loop-number-preserved c = λ code are few same.
    let within : c.loop-number.number < length c.args.units.now = omega (arith, c.loop-number-test.true) in
    let there = ap (λ (us : List CodeUnit). slice_get us c.loop-number.number) same ∙ get-there c.args.units.now c.loop-number.number c.index-units-number.result within c.index-units-number.is in
    rows-more (IsCallable code) c.loop-number.rows.items _ c.loop-number.number c.can_be_called.result c.in_ok-push.ensures.items (c.loop-number.invariant code are few same) (c.can_be_called.ensures code are few there)

pub returns : goal.returns
returns c = λ code are few same.
    let all : c.loop-number.number ≡ length c.args.units.now = omega (arith, c.loop-number-test.false, c.loop-number.auto.number-end) in
    rows-tell code c.loop-number.rows.items c.loop-number.number (all ∙ sym (ap length same)) (c.loop-number.invariant code are few same)
