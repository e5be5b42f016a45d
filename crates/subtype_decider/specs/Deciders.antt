-- What is found out about types.
use Rattle.std.specs.Prelude.{ℕ, List, Option}
use Rattle.bal_base.specs.declared.shape.Shape.{Shape}
use Rattle.type_model.specs.declared.atoms.AtomDef.{AtomDef}
use Rattle.type_diagrams.specs.Tables.{Table as Diagrams}

-- the definitions of the atoms, the diagrams of types over them, and what is kept of questions
pub record Findings : Type 0 where
  pub atoms : List AtomDef
  pub diagrams : Diagrams
  pub table : List (ℕ × Option Shape)
