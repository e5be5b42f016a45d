use Rattle.std.proofs.Common.{map, take}
use Rattle.bal_report.specs.ShapeText.{as_written, case_text, field_text, shape_text}
use Rattle.text_forms.specs.Forms.{Adds, listed, written}
use Rattle.bal_report.proofs.shapes.+shapes.Given as goal

abbrev pub invariant-add_shapes-loop-i : goal.invariant-add_shapes-loop-i
invariant-add_shapes-loop-i l = Adds (written l.initial.out) (listed as_written (map shape_text (take l.i l.shapes))) (written l.out)

abbrev pub invariant-add_fields-loop-i : goal.invariant-add_fields-loop-i
invariant-add_fields-loop-i l = Adds (written l.initial.out) (listed field_text (map (λ f. (f.0, shape_text f.1)) (take l.i l.fields))) (written l.out)

abbrev pub invariant-add_cases-loop-i : goal.invariant-add_cases-loop-i
invariant-add_cases-loop-i l = Adds (written l.initial.out) (listed as_written (map case_text (take l.i l.cases))) (written l.out)
