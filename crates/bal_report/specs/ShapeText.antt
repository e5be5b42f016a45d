-- The text of a shape: as that of a value inside a structure, with its mark, and a function as its graph.
use Rattle.std.specs.Prelude.{◌++◌, ℕ, List, Option, Some, None, codes}
use Rattle.std.specs.Fmt.{signed_decimal}
use Rattle.bal_base.specs.declared.text.Text.{Text}
use Rattle.bal_base.specs.declared.shape.Shape.{Shape}
use Rattle.bal_base.specs.declared.shape.Shape.TheOpen as layer
use Rattle.bal_base.specs.declared.shape.Case.{Case}
use Rattle.bal_report.specs.ShapeLayers.{ShapeOf, CaseOf, FieldsOf, GraphOf, ShapesOf, ShapeSteps, of_shape, of_case}
use Rattle.text_forms.specs.Forms.{listed, quoted, text_if, truth_text}

-- what is written already
abbrev pub as_written : List ℕ → List ℕ
as_written text = text

-- `"a":1`
abbrev pub field_text : Text × List ℕ → List ℕ
field_text f = quoted f.0 ++ codes ":" ++ f.1

-- the result of a call, or that there is none
abbrev pub result_text : Option (List ℕ) → List ℕ
result_text (Some text) = text
result_text None = codes "fail"

abbrev pub shape_step : ShapeOf (List ℕ) → List ℕ
shape_step layer.Nil = codes "null"
shape_step (layer.Bool b) = truth_text b
shape_step (layer.Int n) = signed_decimal n
shape_step (layer.Str t) = quoted t
shape_step (layer.List mark items) = text_if mark (codes "readonly ") ++ codes "[" ++ items ++ codes "]"
shape_step (layer.Mapping mark fields) = text_if mark (codes "readonly ") ++ codes "{" ++ fields ++ codes "}"
shape_step (layer.Error detail) = codes "error(" ++ detail.value ++ codes ")"
shape_step (layer.Function isolated graph) = text_if isolated (codes "isolated ") ++ codes "function{" ++ graph ++ codes "}"
shape_step (layer.Future results) = codes "future{" ++ results ++ codes "}"

-- `(1,2)->3`
abbrev pub case_step : CaseOf (List ℕ) → List ℕ
case_step c = codes "(" ++ c.args ++ codes ")->" ++ result_text c.result

abbrev pub fields_step : FieldsOf (List ℕ) → List ℕ
fields_step f = listed field_text f.items.items

abbrev pub graph_step : GraphOf (List ℕ) → List ℕ
graph_step g = listed as_written g.items.items

abbrev pub shapes_step : ShapesOf (List ℕ) → List ℕ
shapes_step s = listed as_written s.items.items

abbrev pub writing : ShapeSteps (List ℕ)
writing = record { shape = shape_step; one_case = case_step; fields = fields_step; graph = graph_step; shapes = shapes_step }

abbrev pub shape_text : Shape → List ℕ
shape_text = of_shape writing

abbrev pub case_text : Case → List ℕ
case_text = of_case writing
