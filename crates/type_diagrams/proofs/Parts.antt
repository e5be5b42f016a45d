-- What is said of the parts of the shapes of a path that has none.
use Rattle.std.proofs.Common.{inr, ℕ, List, Option}
use Rattle.bal_base.specs.declared.shape.Shape.{Shape}
use Rattle.type_model.specs.declared.atoms.AtomDef.{AtomDef}
use Rattle.type_model.specs.declared.answers.Keys.{Keys}
use Rattle.type_diagrams.specs.declared.kind.Kind.{Kind}
use Rattle.type_diagrams.specs.declared.path.Path.{Path}
use Rattle.type_diagrams.specs.Conditions.{nothing}
use Rattle.type_diagrams.specs.Projections.{AreParts}
use Rattle.type_diagrams.specs.Tables.{Table, condition}
use Rattle.type_diagrams.specs.Turns.{HasLower, IsShapeOn}
use Rattle.type_diagrams.specs.Whole.{Gives}
use Rattle.type_diagrams.proofs.Meeting.{Meets-nothing, Meets-same}
use Rattle.type_diagrams.proofs.Reaching.{nothing-Looks, one-Looks}

module _ (env : List AtomDef) (table : Table) (kept : List (ℕ × Option Shape)) (k : Kind) (p : Path) (keys : Keys) (q : ℕ) where
  -- where each shape of the path has a lower one in a question that is held to be empty
  pub nothing-AreParts : Gives table nothing q → ((x : Shape) → IsShapeOn env k p x → HasLower env table kept x) → AreParts env table kept k p keys q
  nothing-AreParts g lower = record {
    diagram = g.diagram;
    looks = one-Looks env nothing (condition table q) g.condition (nothing-Looks env);
    from = λ y is. absurd (Meets-nothing env y ((Meets-same env (condition table q) nothing y is.0 g.condition).0 is.1));
    to = λ x y on stands. inr (lower x on);
  }
