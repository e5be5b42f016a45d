-- Results of futures that avoid atoms, against a table of questions.
use Rattle.std.specs.Prelude.{◌≡◌, ℕ, List, All, Contains, Option}
use Rattle.bal_base.specs.declared.shape.Shape.{Shape, Future}
use Rattle.bal_base.specs.declared.shape.Shapes.{Shapes}
use Rattle.bal_base.specs.Shapes.{shapes_list}
use Rattle.type_model.specs.declared.atoms.AtomDef.{AtomDef}
use Rattle.type_diagrams.specs.declared.turn.Turn.{Turn}
use Rattle.type_diagrams.specs.declared.turn.Turn.TheVariants.{Shape as Found, Empty, Ask}
use Rattle.type_diagrams.specs.Conditions.{Condition, Meets, IsShapeOf, without}
use Rattle.type_diagrams.specs.Kept.{IsUnknown, IsHeldEmpty}
use Rattle.type_diagrams.specs.Tables.{Table}
use Rattle.type_diagrams.specs.Whole.{Gives}
use Rattle.empty_arrow.specs.Parts.{part_of}

module _ (env : List AtomDef) where
  -- all are shapes of a condition, and for each atom one is outside what it asks
  pub record AreResults (all : Condition) (atoms : List ℕ) (results : List Shape) : Type 0 where
    pub inside : All (IsShapeOf env all) results
    pub avoiding : All (λ a. ¬ All (Meets env (part_of env a)) results) atoms

  -- the question for a result that avoids one of the atoms
  pub record IsAvoidance (table : Table) (all : Condition) (atoms : List ℕ) (question : ℕ) : Type 0 where
    pub atom : ℕ
    pub among : Contains atoms atom
    pub gives : Gives table (without all (part_of env atom)) question

  abbrev pub TellsResults : Table → List (ℕ × Option Shape) → Condition → List ℕ → Turn → Type 0
  TellsResults table kept all atoms (Found x) = (results : Shapes) × (x ≡ Future results) × AreResults all atoms (shapes_list results)
  TellsResults table kept all atoms Empty = (question : ℕ) × IsHeldEmpty kept question × IsAvoidance table all atoms question
  TellsResults table kept all atoms (Ask question) = IsUnknown kept question × IsAvoidance table all atoms question
