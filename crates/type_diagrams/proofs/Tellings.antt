-- What is told of a question, where the table of diagrams has grown.
use Rattle.std.proofs.Common.{ℕ, List, Option, Some, None, All, Contains, sym, subst}
use Rattle.std.proofs.lemmas.List.Elements.{All-contains, All-weaker}
use Rattle.bal_base.specs.declared.shape.Shape.{Shape}
use Rattle.bal_base.specs.Levels.{levels}
use Rattle.bal_base.specs.Same.{IsSame}
use Rattle.std.specs.Prelude.{◌<◌}
use Rattle.type_model.specs.declared.atoms.AtomDef.{AtomDef}
use Rattle.type_diagrams.specs.Conditions.{Condition, IsShapeOf}
use Rattle.type_diagrams.specs.Kept.{IsHeldEmpty}
use Rattle.type_diagrams.specs.Tables.{Table, condition}
use Rattle.type_diagrams.specs.Turns.{IsSound, HasLower}
use Rattle.type_diagrams.specs.Whole.{Keeps, Gives}
use Rattle.type_diagrams.proofs.Copied.{IsShapeOf-copied}
use Rattle.type_diagrams.proofs.Keeping.{length-grows}
use Rattle.type_diagrams.proofs.Meeting.{Meets-same}

module _ (env : List AtomDef) (old new : Table) (kept : List (ℕ × Option Shape)) (c : Condition) (q : ℕ) (gives : Gives new c q) where
  -- a copy of the shape that is kept for a question is a shape of it
  pub kept-IsShapeOf : All (IsSound env old) kept → Keeps old new → (x y : Shape) → Contains kept (q, Some x) → IsSame x y → IsShapeOf env c y
  kept-IsShapeOf sound keeps x y has same =
      let known = All-contains (IsSound env old) kept (q, Some x) sound has in
      let here = subst (λ d. IsShapeOf env d x) (sym (keeps.conditions q known.0)) known.1 in
      let copied = IsShapeOf-copied env x y same (condition new q) here in
      (copied.0, (Meets-same env (condition new q) c y copied.0 gives.condition).0 copied.1)

  -- a part of a question that is held to be empty, with fewer levels
  pub held-HasLower : IsHeldEmpty kept q → (x y : Shape) → IsShapeOf env c y → levels y < levels x → HasLower env new kept x
  held-HasLower held x y is lower = record {
    question = q;
    held = held;
    part = y;
    inside = (is.0, (Meets-same env (condition new q) c y is.0 gives.condition).1 is.1);
    lower = lower;
  }

  -- the shape that is kept for a question is one of it
  pub shared-IsShapeOf : All (IsSound env old) kept → Keeps old new → (x : Shape) → Contains kept (q, Some x) → IsShapeOf env c x
  shared-IsShapeOf sound keeps x has =
      let known = All-contains (IsSound env old) kept (q, Some x) sound has in
      let here = subst (λ d. IsShapeOf env d x) (sym (keeps.conditions q known.0)) known.1 in
      (here.0, (Meets-same env (condition new q) c x here.0 gives.condition).0 here.1)

-- the same, where the table has not grown
pub found-IsShapeOf : (env : List AtomDef) (table : Table) (kept : List (ℕ × Option Shape)) (q : ℕ) → All (IsSound env table) kept → (x : Shape) → Contains kept (q, Some x) → IsShapeOf env (condition table q) x
found-IsShapeOf env table kept q sound x has = (All-contains (IsSound env table) kept (q, Some x) sound has).1

pub told-IsShapeOf : (env : List AtomDef) (table : Table) (kept : List (ℕ × Option Shape)) (q : ℕ) → All (IsSound env table) kept → (x y : Shape) → Contains kept (q, Some x) → IsSame x y → IsShapeOf env (condition table q) y
told-IsShapeOf env table kept q sound x y has same =
    let known = All-contains (IsSound env table) kept (q, Some x) sound has in
    IsShapeOf-copied env x y same (condition table q) known.1

-- what is kept stays sound
pub sound-keeps : (env : List AtomDef) (old new : Table) (kept : List (ℕ × Option Shape)) → Keeps old new → All (IsSound env old) kept → All (IsSound env new) kept
sound-keeps env old new kept keeps sound = All-weaker (IsSound env old) (IsSound env new) (λ entry h. by entry.0 entry.1 h) kept sound
  where
    by : (q : ℕ) (o : Option Shape) → IsSound env old (q, o) → IsSound env new (q, o)
    by q None h = length-grows old.diagrams new.diagrams q keeps.diagrams h
    by q (Some x) h = (length-grows old.diagrams new.diagrams q keeps.diagrams h.0, subst (λ c. IsShapeOf env c x) (sym (keeps.conditions q h.0)) h.1)

-- a lower shape of a question that is held to be empty stays one
pub lower-keeps : (env : List AtomDef) (old new : Table) (kept : List (ℕ × Option Shape)) (x : Shape) → Keeps old new → All (IsSound env old) kept → HasLower env old kept x → HasLower env new kept x
lower-keeps env old new kept x keeps sound l = record {
  question = l.question;
  held = l.held;
  part = l.part;
  inside = subst (λ c. IsShapeOf env c l.part) (sym (keeps.conditions l.question (All-contains (IsSound env old) kept (l.question, None) sound l.held))) l.inside;
  lower = l.lower;
}
