use Rattle.bal_report.specs.ShapeText.{shape_text}
use Rattle.text_forms.proofs.Adding.{adds-first}
use Rattle.bal_report.proofs.shapes.shape_text.Goals as goal

pub returns : goal.returns
returns c = adds-first c.new-out.result c.add_shape.new.out (shape_text c.args.s.now) c.new-out.ensures.bytes c.in_ok-add_shape.ensures
