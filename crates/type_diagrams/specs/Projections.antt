-- What is said of the parts that stand at some keys of a path's shapes, against a table of questions.
use Rattle.std.specs.Prelude.{◌⊎◌, ℕ, List, Option}
use Rattle.bal_base.specs.declared.shape.Shape.{Shape}
use Rattle.type_model.specs.declared.atoms.AtomDef.{AtomDef}
use Rattle.type_model.specs.declared.answers.Keys.{Keys}
use Rattle.type_model.specs.Parts.{StandsIn}
use Rattle.type_diagrams.specs.declared.kind.Kind.{Kind}
use Rattle.type_diagrams.specs.declared.path.Path.{Path}
use Rattle.type_diagrams.specs.declared.projection.Projection.{Projection}
use Rattle.type_diagrams.specs.declared.projection.Projection.TheVariants.{Parts, Ask}
use Rattle.type_diagrams.specs.Conditions.{IsShapeOf, LooksAtKinds}
use Rattle.type_diagrams.specs.Tables.{Table, IsDiagram, condition}
use Rattle.type_diagrams.specs.Turns.{IsShapeOn, HasLower, Turns}
use Rattle.type_diagrams.specs.declared.turn.Turn.TheVariants.{Ask as AskTurn}

module _ (env : List AtomDef) (table : Table) (kept : List (ℕ × Option Shape)) (k : Kind) (p : Path) (keys : Keys) where
  -- each shape of the question stands at such a key of a shape of the path; and whatever stands there is a
  -- shape of the question, or the whole has a lower one in a question that is held to be empty
  pub record AreParts (question : ℕ) : Type 0 where
    pub diagram : IsDiagram table question
    pub looks : LooksAtKinds env (condition table question)
    pub from : (y : Shape) → IsShapeOf env (condition table question) y → (x : Shape) × IsShapeOn env k p x × StandsIn keys x y
    pub to : (x y : Shape) → IsShapeOn env k p x → StandsIn keys x y → IsShapeOf env (condition table question) y ⊎ HasLower env table kept x

  -- what is said of the parts holds
  abbrev pub Projects : Projection → Type 0
  Projects (Parts question) = AreParts question
  Projects (Ask question) = Turns env table kept k p (AskTurn question)
