use Rattle.std.proofs.Common.{◌+◌, take, sym, subst, arith}
use Rattle.std.specs.List.{AllZip}
use Rattle.bal_base.specs.Same.{IsSame, IsSameField, IsSameCase}
use Rattle.bal_base.proofs.Copies.{by_copies, copied_more, IsSame-List, IsSame-Mapping, IsSame-Function, IsSame-Future}
use Rattle.bal_base.proofs.shape.+copy.Goals as goal

pub Shape::copy-returns-in_ok-copies-in-List : goal.Shape::copy-returns-in_ok-copies-in-List
Shape::copy-returns-in_ok-copies-in-List t c =
    by_copies IsSame _ _ _ c.in-List.is c.as_slice.ensures c.of.ensures (IsSame-List c.in-List.mark c.in-List.items c.of.result) c.in_ok-copies-in-List.ensures

pub Shape::copy-returns-in_ok-copy_fields-in-Mapping : goal.Shape::copy-returns-in_ok-copy_fields-in-Mapping
Shape::copy-returns-in_ok-copy_fields-in-Mapping t c =
    by_copies IsSameField _ _ _ c.in-Mapping.is c.as_slice-in-Mapping.ensures c.of-in-Mapping.ensures (IsSame-Mapping c.in-Mapping.mark c.in-Mapping.fields c.of-in-Mapping.result) c.in_ok-copy_fields-in-Mapping.ensures

pub Shape::copy-returns-in_ok-copy_cases-in-Function : goal.Shape::copy-returns-in_ok-copy_cases-in-Function
Shape::copy-returns-in_ok-copy_cases-in-Function t c =
    by_copies IsSameCase _ _ _ c.in-Function.is c.as_slice-in-Function.ensures c.of-in-Function.ensures (IsSame-Function c.in-Function.isolated c.in-Function.graph c.of-in-Function.result) c.in_ok-copy_cases-in-Function.ensures

pub Shape::copy-returns-in_ok-copies-in-Future : goal.Shape::copy-returns-in_ok-copies-in-Future
Shape::copy-returns-in_ok-copies-in-Future t c =
    by_copies IsSame _ _ _ c.in-Future.is c.as_slice-in-Future.ensures c.of-in-Future.ensures (IsSame-Future c.in-Future.results c.of-in-Future.result) c.in_ok-copies-in-Future.ensures

pub copy::copies-loop-x-preserved : goal.copy::copies-loop-x-preserved
copy::copies-loop-x-preserved t c =
    subst (AllZip IsSame (take (c.loop-x.x-index + 1) c.args.shapes.now)) (sym c.in_ok-push.ensures.items)
    (copied_more IsSame c.args.shapes.now c.loop-x.made.items c.loop-x.x-index c.x-item.result c.in_ok-copy.field-0 (grind (arith, c.loop-x-test.true)) c.x-item.is c.loop-x.invariant c.in_ok-copy.ensures)

pub copy::copy_cases-loop-case-preserved : goal.copy::copy_cases-loop-case-preserved
copy::copy_cases-loop-case-preserved t c =
    subst (AllZip IsSameCase (take (c.loop-case.case-index + 1) c.args.cases.now)) (sym c.in_ok-push.ensures.items)
    (copied_more IsSameCase c.args.cases.now c.loop-case.made.items c.loop-case.case-index c.case-item.result c.in_ok-copy_case.field-0 (grind (arith, c.loop-case-test.true)) c.case-item.is c.loop-case.invariant c.in_ok-copy_case.ensures)

pub copy::copy_fields-loop-key-preserved : goal.copy::copy_fields-loop-key-preserved
copy::copy_fields-loop-key-preserved t c =
    subst (AllZip IsSameField (take (c.loop-key.key-index + 1) c.args.fields.now)) (sym c.in_ok-push.ensures.items)
    (copied_more IsSameField c.args.fields.now c.loop-key.made.items c.loop-key.key-index c.loop-key-item.result (c.share.result, c.in_ok-copy.field-0) (grind (arith, c.loop-key-test.true)) c.loop-key-item.is c.loop-key.invariant (sym c.share.ensures, c.in_ok-copy.ensures))
