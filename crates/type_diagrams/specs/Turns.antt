-- What is said of a path against a table of questions: the one statement between the decider, which works
-- through the questions, and the calls that settle the paths of each kind.
use Rattle.std.specs.Prelude.{◌<◌, ℕ, List, length, All, Option, Some, None}
use Rattle.bal_base.specs.declared.shape.Shape.{Shape}
use Rattle.bal_base.specs.Valid.{IsValid}
use Rattle.type_model.specs.declared.atoms.AtomDef.{AtomDef}
use Rattle.type_diagrams.specs.declared.kind.Kind.{Kind}
use Rattle.type_diagrams.specs.declared.path.Path.{Path}
use Rattle.type_diagrams.specs.declared.turn.Turn.{Turn}
use Rattle.type_diagrams.specs.declared.turn.Turn.TheVariants.{Shape as Found, Empty, Ask}
use Rattle.bal_base.specs.Levels.{levels}
use Rattle.type_diagrams.specs.Paths.{IsOnPath}
use Rattle.type_diagrams.specs.Conditions.{IsShapeOf, IsLiteralOf}
use Rattle.type_diagrams.specs.Tables.{Table, IsDiagram, DependBelow, condition}
use Rattle.type_diagrams.specs.Kept.{IsUnknown, IsHeldEmpty}
use Rattle.type_diagrams.specs.Questions.{IsMemberQuestion}

module _ (env : List AtomDef) where
  -- a valid shape of the path
  abbrev pub IsShapeOn : Kind → Path → Shape → Type 0
  IsShapeOn k p x = IsValid x × IsOnPath env k p x

  -- the literals of the path are the mark and atoms of the kind
  pub record HasLiteralsOf (k : Kind) (p : Path) : Type 0 where
    pub holding : All (IsLiteralOf env k) p.pos
    pub failing : All (IsLiteralOf env k) p.neg

module _ (env : List AtomDef) (table : Table) where
  -- what is known of a question that is kept: a shape is one of it
  abbrev pub IsSound : ℕ × Option Shape → Type 0
  IsSound (question, Some x) = IsDiagram table question × IsShapeOf env (condition table question) x
  IsSound (question, None) = IsDiagram table question

module _ (env : List AtomDef) (table : Table) (kept : List (ℕ × Option Shape)) where
  -- what a call for a path needs: atoms of the path are of its kind, those of the diagrams are defined,
  -- and what is kept is sound
  pub record IsReady (k : Kind) (p : Path) : Type 0 where
    pub literals : HasLiteralsOf env k p
    pub defined : DependBelow (length env) table.nodes
    pub sound : All (IsSound env table) kept

  -- a question that is held to be empty has a shape with fewer levels
  pub record HasLower (x : Shape) : Type 0 where
    pub question : ℕ
    pub held : IsHeldEmpty kept question
    pub part : Shape
    pub inside : IsShapeOf env (condition table question) part
    pub lower : levels part < levels x

  -- what is said of the path holds
  abbrev pub Turns : Kind → Path → Turn → Type 0
  Turns k p (Found x) = IsShapeOn env k p x
  Turns k p Empty = (x : Shape) → IsShapeOn env k p x → HasLower x
  Turns k p (Ask question) =
      IsUnknown kept question × IsDiagram table question × IsMemberQuestion env k p (condition table question)
