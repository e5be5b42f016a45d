-- What a table keeps of questions: a shape, or that there is none.
use Rattle.std.specs.Prelude.{◌≢◌, ℕ, List, All, Contains, Option, Some, None}
use Rattle.bal_base.specs.declared.shape.Shape.{Shape}

-- the table doesn't know the question
abbrev pub IsUnknown : List (ℕ × Option Shape) → ℕ → Type 0
IsUnknown kept question = All (λ entry. entry.0 ≢ question) kept

-- the table holds the question to be empty
abbrev pub IsHeldEmpty : List (ℕ × Option Shape) → ℕ → Type 0
IsHeldEmpty kept question = Contains kept (question, None)

-- what is told of a question is what is kept for it
abbrev pub Tells : List (ℕ × Option Shape) → ℕ → Option (Option Shape) → Type 0
Tells kept question (Some entry) = Contains kept (question, entry)
Tells kept question None = IsUnknown kept question
