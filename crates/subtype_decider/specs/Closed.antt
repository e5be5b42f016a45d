-- The table between calls: what it keeps of each question is so.
use Rattle.std.specs.Prelude.{ℕ, List, All, Option, Some, None, Bool, MatchBool}
use Rattle.bal_base.specs.declared.shape.Shape.{Shape}
use Rattle.type_model.specs.declared.atoms.AtomDef.{AtomDef}
use Rattle.type_diagrams.specs.Conditions.{Condition, IsShapeOf}
use Rattle.type_diagrams.specs.Tables.{Table as Diagrams, IsDiagram, condition}
use Rattle.subtype_decider.specs.Entries.{AreApart}

-- whether there is a shape that is one
abbrev pub TellsSome : (Shape → Type 0) → Bool → Type 0
TellsSome IsOne some = MatchBool some ((x : Shape) × IsOne x) ((x : Shape) → ¬ IsOne x)

module _ (env : List AtomDef) where
  abbrev pub HasNoShape : Condition → Type 0
  HasNoShape c = (x : Shape) → ¬ IsShapeOf env c x

  -- a shape of the condition, or none where it has none
  abbrev pub FindsShapeOf : Condition → Option Shape → Type 0
  FindsShapeOf c (Some x) = IsShapeOf env c x
  FindsShapeOf c None = HasNoShape c

  module _ (diagrams : Diagrams) where
    -- a kept shape is one of the question, and where none is kept the question has none
    abbrev pub IsRight : ℕ × Option Shape → Type 0
    IsRight (question, Some x) = IsDiagram diagrams question × IsShapeOf env (condition diagrams question) x
    IsRight (question, None) = IsDiagram diagrams question × HasNoShape (condition diagrams question)

    pub record IsClosed (kept : List (ℕ × Option Shape)) : Type 0 where
      pub apart : AreApart kept
      pub right : All IsRight kept
