-- Layers of shapes: a shape with something in place of each part, and what a step for each kind of part makes of a whole one.
use Rattle.bal_base.specs.declared.shape.Shape.{Shape, Shape-F, fold-Shape}
use Rattle.bal_base.specs.declared.shape.Case.{Case, Case-F, fold-Case}
use Rattle.bal_base.specs.declared.shape.Fields.{Fields, Fields-F, fold-Fields}
use Rattle.bal_base.specs.declared.shape.Graph.{Graph, Graph-F, fold-Graph}
use Rattle.bal_base.specs.declared.shape.Shapes.{Shapes, Shapes-F, fold-Shapes}

module _ (A : Type 0) where
  abbrev pub ShapeOf : Type 0
  ShapeOf = Shape-F A A A A A

  abbrev pub CaseOf : Type 0
  CaseOf = Case-F A A A A A

  abbrev pub FieldsOf : Type 0
  FieldsOf = Fields-F A A A A A

  abbrev pub GraphOf : Type 0
  GraphOf = Graph-F A A A A A

  abbrev pub ShapesOf : Type 0
  ShapesOf = Shapes-F A A A A A

  -- what is made of each kind of part, from what was made of its own parts
  pub record ShapeSteps : Type 0 where
    pub shape : ShapeOf → A
    pub one_case : CaseOf → A
    pub fields : FieldsOf → A
    pub graph : GraphOf → A
    pub shapes : ShapesOf → A

module _ {A : Type 0} (s : ShapeSteps A) where
  abbrev pub of_shape : Shape → A
  of_shape = fold-Shape A A A A A s.shape s.one_case s.fields s.graph s.shapes

  abbrev pub of_case : Case → A
  of_case = fold-Case A A A A A s.shape s.one_case s.fields s.graph s.shapes

  abbrev pub of_fields : Fields → A
  of_fields = fold-Fields A A A A A s.shape s.one_case s.fields s.graph s.shapes

  abbrev pub of_graph : Graph → A
  of_graph = fold-Graph A A A A A s.shape s.one_case s.fields s.graph s.shapes

  abbrev pub of_shapes : Shapes → A
  of_shapes = fold-Shapes A A A A A s.shape s.one_case s.fields s.graph s.shapes
