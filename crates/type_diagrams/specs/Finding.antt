-- What a table of questions tells.
use Rattle.std.specs.Prelude.{ℕ, List, Contains, Option, Some}
use Rattle.bal_base.specs.declared.shape.Shape.{Shape}
use Rattle.type_diagrams.specs.Kept.{IsUnknown, IsHeldEmpty}
use Rattle.type_diagrams.specs.declared.finding.Finding.{Finding}
use Rattle.type_diagrams.specs.declared.finding.Finding.TheVariants.{Part, Held, Unknown}

-- what is told is what is kept
abbrev pub IsFinding : List (ℕ × Option Shape) → ℕ → Finding → Type 0
IsFinding kept question (Part x) = Contains kept (question, Some x)
IsFinding kept question Held = IsHeldEmpty kept question
IsFinding kept question Unknown = IsUnknown kept question
