-- For search: the text of a shape by its outermost layer, and texts one behind the other.
use Rattle.std.proofs.Common.{◌≡◌, append_assoc, map, refl, ◌∙◌}
use Rattle.std.proofs.lemmas.List.{append-nil}
use Rattle.bal_base.specs.Shapes.{fields_list}
use Rattle.bal_base.specs.declared.shape.Shape.{fold_out-Shape}
use Rattle.bal_base.specs.declared.shape.Case.{fold_out-Case}
use Rattle.bal_base.specs.declared.shape.Fields.{Fields, fold_out-Fields}
use Rattle.bal_base.specs.declared.shape.Graph.{fold_out-Graph}
use Rattle.bal_base.specs.declared.shape.Shapes.{fold_out-Shapes}
use Rattle.bal_base.specs.declared.shape.Shape.TheViews.{the_lemmas}
use Rattle.bal_report.specs.ShapeLayers.{of_fields}
use Rattle.bal_report.specs.ShapeText.{field_text, shape_text, writing}
use Rattle.text_forms.specs.Forms.{listed}

pub fields-text : (fields : Fields) → of_fields writing fields ≡ listed field_text (map (λ f. (f.0, shape_text f.1)) (fields_list fields))
fields-text fields = fold_out-Fields _ _ _ _ _ _ _ _ _ _ fields ∙ refl

pub ruleset shape_rules = (the_lemmas, fold_out-Shape, fold_out-Case, fields-text, fold_out-Graph, fold_out-Shapes, append_assoc, append-nil)

pub ruleset in_a_row = (append_assoc, append-nil)
