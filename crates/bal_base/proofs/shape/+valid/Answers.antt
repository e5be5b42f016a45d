use Rattle.std.proofs.Common.{IsTrue, All, List, arith}
use Rattle.bal_base.specs.declared.text.Text.{Text}
use Rattle.bal_base.specs.declared.shape.Shape.{Shape}
use Rattle.bal_base.specs.Valid.{IsFrozen, IsValid, CaseIsValid, KeysRise, AreTexts}
use Rattle.bal_base.proofs.Loops.{one_more, at_end}
use Rattle.bal_base.proofs.Rows.{IsValid-List, IsValid-Mapping, IsValid-Function, IsValid-Future}
use Rattle.bal_base.proofs.Tests.{by_read_parts}
use Rattle.bal_base.proofs.shape.+valid.Goals as goal

pub Shape::is_valid-returns-in-List : goal.Shape::is_valid-returns-in-List
Shape::is_valid-returns-in-List t c =
    let m = c.in-List.mark in
    let Q : List Shape → Type 0 = λ xs. (IsTrue m → All IsFrozen xs) × All IsValid xs in
    by_read_parts IsValid Q c.in-List.is c.as_slice.ensures (IsValid-List m c.in-List.items) c.list_valid.ensures

pub Shape::is_valid-returns-in-Mapping : goal.Shape::is_valid-returns-in-Mapping
Shape::is_valid-returns-in-Mapping t c =
    let m = c.in-Mapping.mark in
    let Q : List (Text × Shape) → Type 0 = λ fs. AreTexts fs × KeysRise fs × (IsTrue m → All (λ f. IsFrozen f.1) fs) × All (λ f. IsValid f.1) fs in
    by_read_parts IsValid Q c.in-Mapping.is c.as_slice-in-Mapping.ensures (IsValid-Mapping m c.in-Mapping.fields) c.mapping_valid.ensures

pub Shape::is_valid-returns-in-Function : goal.Shape::is_valid-returns-in-Function
Shape::is_valid-returns-in-Function t c =
    by_read_parts IsValid (All CaseIsValid) c.in-Function.is c.as_slice-in-Function.ensures (IsValid-Function c.in-Function.isolated c.in-Function.graph) c.graph_valid.ensures

pub Shape::is_valid-returns-in-Future : goal.Shape::is_valid-returns-in-Future
Shape::is_valid-returns-in-Future t c =
    by_read_parts IsValid (All IsValid) c.in-Future.is c.as_slice-in-Future.ensures (IsValid-Future c.in-Future.results) c.are_valid.ensures

pub valid::are_valid-loop-x-preserved : goal.valid::are_valid-loop-x-preserved
valid::are_valid-loop-x-preserved t c =
    one_more IsValid c.args.shapes.now c.loop-x.x-index c.x-item.result (grind (arith, c.loop-x-test.true)) c.x-item.is c.loop-x.invariant (c.is_valid.ensures.0 c.if-not-is_valid.false)

pub valid::are_valid-returns : goal.valid::are_valid-returns
valid::are_valid-returns t c = at_end IsValid c.args.shapes.now c.loop-x.x-index (grind (arith, c.loop-x-test.false)) c.loop-x.invariant

pub valid::fields_valid-loop-x-preserved : goal.valid::fields_valid-loop-x-preserved
valid::fields_valid-loop-x-preserved t c =
    one_more (λ f. IsValid f.1) c.args.fields.now c.loop-x.x-index c.loop-x-item.result (grind (arith, c.loop-x-test.true)) c.loop-x-item.is c.loop-x.invariant (c.is_valid.ensures.0 c.if-not-is_valid.false)

pub valid::fields_valid-returns : goal.valid::fields_valid-returns
valid::fields_valid-returns t c = at_end (λ f. IsValid f.1) c.args.fields.now c.loop-x.x-index (grind (arith, c.loop-x-test.false)) c.loop-x.invariant
