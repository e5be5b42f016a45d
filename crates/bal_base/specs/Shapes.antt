-- The list types of this crate, as lists.
use Rattle.std.specs.Prelude.{List}
use Rattle.bal_base.specs.declared.text.Text.{Text}
use Rattle.bal_base.specs.declared.shape.Shape.{Shape}
use Rattle.bal_base.specs.declared.shape.Shapes.{Shapes}
use Rattle.bal_base.specs.declared.shape.Fields.{Fields}
use Rattle.bal_base.specs.declared.shape.Graph.{Graph, out-Graph}
use Rattle.bal_base.specs.declared.shape.Case.{Case}

abbrev pub shapes_list : Shapes → List Shape
shapes_list s = s.items.items

abbrev pub fields_list : Fields → List (Text × Shape)
fields_list f = f.items.items

abbrev pub graph_list : Graph → List Case
graph_list g = (out-Graph g).items.items
