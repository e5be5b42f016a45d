-- What the table keeps of questions: for each a shape, or that it is held to be empty.
use Rattle.std.specs.Prelude.{◌≡◌, ◌≢◌, ℕ, List, AllPairs, Any, Contains, Option, Some, slice_get, slice_set}
use Rattle.bal_base.specs.declared.shape.Shape.{Shape}
use Rattle.subtype_decider.specs.declared.table.Entry.{Entry}

abbrev pub pair_of : Entry → ℕ × Option Shape
pair_of e = (e.question, e.shape)

-- no two entries have the same question
abbrev pub AreApart : List (ℕ × Option Shape) → Type 0
AreApart kept = AllPairs (λ a b. a.0 ≢ b.0) kept

-- the table knows the question
abbrev pub Knows : List (ℕ × Option Shape) → ℕ → Type 0
Knows kept question = Any (λ e. e.0 ≡ question) kept

-- what is known in one table is known in the other
abbrev pub KnowsAll : List (ℕ × Option Shape) → List (ℕ × Option Shape) → Type 0
KnowsAll old new = (question : ℕ) → Knows old question → Knows new question

-- all entries stay as they were, but for that of the question in its place, which has the shape now
pub record IsFound (old new : List (ℕ × Option Shape)) (question : ℕ) (x : Shape) : Type 0 where
  pub place : ℕ
  pub before : Option Shape
  pub was : slice_get old place ≡ Some (question, before)
  pub now : new ≡ slice_set old place (question, Some x)

-- the new entries are the old ones without that of the question
pub record IsWithout (old new : List (ℕ × Option Shape)) (question : ℕ) : Type 0 where
  pub others : (e : ℕ × Option Shape) → Contains old e → e.0 ≢ question → Contains new e
  pub from : (e : ℕ × Option Shape) → Contains new e → Contains old e × (e.0 ≢ question)
