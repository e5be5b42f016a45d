use Rattle.std.proofs.Common.{codes}
use Rattle.bal_report.specs.ShapeText.{as_written, case_text, field_text, shape_text}
use Rattle.text_forms.proofs.Adding.{adds-mapped_more}
use Rattle.bal_report.proofs.shapes.+shapes.Goals as goal

pub add_shapes-loop-i-preserved : goal.add_shapes-loop-i-preserved
add_shapes-loop-i-preserved t c =
    adds-mapped_more shape_text as_written (codes ",") c.args.shapes.now c.loop-i.i c.index-shapes-i.result _ _ _ _ c.loop-i-test.true c.index-shapes-i.is c.loop-i.invariant c.in_ok-add_if.ensures c.in_ok-add_shape.ensures

pub add_cases-loop-i-preserved : goal.add_cases-loop-i-preserved
add_cases-loop-i-preserved t c =
    adds-mapped_more case_text as_written (codes ",") c.args.cases.now c.loop-i.i c.index-cases-i.result _ _ _ _ c.loop-i-test.true c.index-cases-i.is c.loop-i.invariant c.in_ok-add_if.ensures c.in_ok-add_case.ensures

pub add_fields-loop-i-preserved : goal.add_fields-loop-i-preserved
add_fields-loop-i-preserved t c =
    adds-mapped_more (λ f. (f.0, shape_text f.1)) field_text (codes ",") c.args.fields.now c.loop-i.i c.index-fields-i.result _ _ _ _ c.loop-i-test.true c.index-fields-i.is c.loop-i.invariant c.in_ok-add_if.ensures c.in_ok-add_field.ensures
