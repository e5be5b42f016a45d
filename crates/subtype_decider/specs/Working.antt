-- What holds while a call works through questions.
use Rattle.std.specs.List.{AllWithin}
use Rattle.std.specs.Prelude.{◌≡◌, ◌≢◌, ◌<◌, ◌≤◌, ◌+◌, ◌-◌, ◌*◌, ◌^◌, ◌++◌, ◌⊎◌, ◌↔◌, ℕ, List, [], ◌∷◌, length, Contains, take, All, AllPairs, Any, Option, Some, false, map}
use Rattle.bal_base.specs.declared.shape.Shape.{Shape}
use Rattle.bal_base.specs.Valid.{IsValid}
use Rattle.type_model.specs.declared.atoms.AtomDef.{AtomDef}
use Rattle.type_model.specs.declared.answers.TypeLimit.{TypeLimit}
use Rattle.type_model.specs.declared.answers.TypeLimit.TheVariants.{Arrows}
use Rattle.type_diagrams.specs.declared.kind.Kind.{Kind}
use Rattle.type_diagrams.specs.declared.path.Path.{Path}
use Rattle.type_diagrams.specs.declared.turn.Turn.{Turn}
use Rattle.type_diagrams.specs.declared.turn.Turn.TheVariants.{Shape as Found, Empty, Ask}
use Rattle.type_diagrams.specs.Kinds.{IsSimple, IsOfKind}
use Rattle.type_diagrams.specs.Paths.{IsOnPath}
use Rattle.type_diagrams.specs.Conditions.{Condition, LooksAtKinds, Meets, IsShapeOf}
use Rattle.type_diagrams.specs.Tables.{Table as Diagrams, IsDiagram, DependBelow, condition}
use Rattle.type_diagrams.specs.Kept.{IsUnknown, IsHeldEmpty}
use Rattle.type_diagrams.specs.Questions.{IsPathOf, IsMemberQuestion}
use Rattle.type_diagrams.specs.Reach.{most_questions}
use Rattle.type_diagrams.specs.Turns.{IsSound, Turns}
use Rattle.subtype_decider.specs.declared.way.Way.{Way}
use Rattle.subtype_decider.specs.declared.held.Held.{Held}
use Rattle.subtype_decider.specs.declared.questions.Questions.{Questions}
use Rattle.subtype_decider.specs.Entries.{AreApart, IsFound, Knows}
use Rattle.subtype_decider.specs.Closed.{HasNoShape, IsClosed}
use Rattle.subtype_decider.specs.Leads.{LeadsTo, WantsTooMany}

-- all paths of a condition, of all kinds: over all atoms, its shapes that aren't simple are those of the paths
pub record HasWays (c : Condition) (ways : List Way) : Type 0 where
  pub each : All (λ w. IsPathOf c w.kind w.path) ways
  pub all : (env : List AtomDef) (k : Kind) (x : Shape) → IsOfKind k x → Meets env c x ↔ Any (λ w. (w.kind ≡ k) × IsOnPath env k w.path x) ways

-- no valid simple shape meets the condition
abbrev pub HasNoSimple : Condition → Type 0
HasNoSimple c = (x : Shape) → IsSimple x → IsValid x → c.simple x ≡ false

module _ (env : List AtomDef) (diagrams : Diagrams) (kept : List (ℕ × Option Shape)) where
  -- each valid shape of the path leads to a lower one of a question that is held to be empty
  abbrev pub IsJudged : Way → Type 0
  IsJudged w = Turns env diagrams kept w.kind w.path Empty

  -- A question on which the call works: it has no simple shape, and its paths before the next one are judged
  -- by what is held now.
  pub record IsHeld (h : Held) : Type 0 where
    pub held : IsHeldEmpty kept h.question
    pub plain : HasNoSimple (condition diagrams h.question)
    pub ways : HasWays (condition diagrams h.question) h.ways.items
    pub next : h.next ≤ length h.ways.items
    pub judged : All IsJudged (take h.next h.ways.items)

  -- all its paths are judged
  pub record IsJudgedInFull (h : Held) : Type 0 where
    pub held : IsHeld h
    pub full : h.next ≡ length h.ways.items

  -- what the judging of a question needs and keeps
  pub record CanJudge (h : Held) : Type 0 where
    pub defined : DependBelow (length env) diagrams.nodes
    pub looks : LooksAtKinds env (condition diagrams h.question)
    pub sound : All (IsSound env diagrams) kept
    pub held : IsHeld h

  -- a member question of one of its paths that the table doesn't know
  abbrev pub IsNewMember : Held → ℕ → Type 0
  IsNewMember h question =
      IsUnknown kept question × IsDiagram diagrams question
      × ((k : Kind) × (p : Path) × IsPathOf (condition diagrams h.question) k p × IsMemberQuestion env k p (condition diagrams question))

  -- what is said of its next path: it is judged, or the question has the shape, or it leads to a new question
  abbrev pub NextSays : Held → Turn → Type 0
  NextSays h Empty = IsHeld (record h { next = h.next + 1 })
  NextSays h (Found x) = IsShapeOf env (condition diagrams h.question) x
  NextSays h (Ask question) = IsNewMember h question

  -- what is said of the question: it is judged in full, or it has the shape, or it leads to a new question
  abbrev pub Says : Held → Turn → Type 0
  Says h Empty = h.next ≡ length h.ways.items
  Says h (Found x) = IsShapeOf env (condition diagrams h.question) x
  Says h (Ask question) = IsNewMember h question

-- why a question can't be judged: a path of functions wants too many arrows
abbrev pub HasTooMany : Condition → TypeLimit → Type 0
HasTooMany c limit = (limit ≡ Arrows) × (k : Kind) × (p : Path) × IsPathOf c k p × WantsTooMany k p

abbrev pub questions_of : List Held → List ℕ
questions_of held = map (λ h. h.question) held

-- how many more entries the table could hold
abbrev pub unknown_left : Questions → ℕ
unknown_left q = 2 ^ 63 - length q.table

-- the call works on the question
abbrev pub IsAmongHeld : List Held → ℕ → Type 0
IsAmongHeld held question = Any (λ h. h.question ≡ question) held

-- how much is left to do at most: each new entry and each shape that is found makes it less
abbrev pub left : ℕ → Questions → ℕ
left start q = 2 * (start + most_questions - length q.table) + length q.pending.items + length q.judged.items

-- what is said of the question that is next to work on
abbrev pub LastSays : List AtomDef → Diagrams → List (ℕ × Option Shape) → List Held → Turn → Type 0
LastSays env diagrams kept pending turn = (front : List Held) × (h : Held) × (pending ≡ front ++ h ∷ []) × Says env diagrams kept h turn

module _ (env : List AtomDef) (asked start : ℕ) where
  -- A call for a question, which began with so many entries. Of the entries since then each is a question to
  -- which that one leads. Each question that is held to be empty has no shape, or the call works on it.
  pub record Works (diagrams : Diagrams) (kept : List (ℕ × Option Shape)) (pending judged : List Held) : Type 0 where
    pub defined : DependBelow (length env) diagrams.nodes
    pub first : IsDiagram diagrams asked
    pub looks : LooksAtKinds env (condition diagrams asked)
    pub apart : AreApart kept
    pub sound : All (IsSound env diagrams) kept
    pub began : start ≤ length kept
    pub few : length kept ≤ start + most_questions
    pub leads : AllWithin (λ e. LeadsTo env (condition diagrams asked) (condition diagrams e.0)) kept start (length kept)
    pub held_pending : All (IsHeld env diagrams kept) pending
    pub full : All (IsJudgedInFull env diagrams kept) judged
    pub pending_new : All (λ h. IsUnknown (take start kept) h.question) pending
    pub judged_new : All (λ h. IsUnknown (take start kept) h.question) judged
    pub distinct : AllPairs (λ a b. a ≢ b) (questions_of pending ++ questions_of judged)
    pub closed : (question : ℕ) → IsHeldEmpty kept question → HasNoShape env (condition diagrams question) ⊎ IsAmongHeld (pending ++ judged) question

  abbrev pub IsWorking : Questions → Type 0
  IsWorking q = Works q.diagrams q.table q.pending.items q.judged.items

  -- the table has come to know one more question
  pub record IsEntered (old new : Questions) (question : ℕ) : Type 0 where
    pub working : IsWorking new
    pub knows : Knows new.table question
    pub less : left start new < left start old

-- ---- steps

-- one more question is held to be empty, and is the next one to work on
pub record HoldsOneMore (old new : Questions) (question : ℕ) : Type 0 where
  pub held : Held
  pub is : held.question ≡ question
  pub next : held.next ≡ 0
  pub ways : HasWays (condition old.diagrams question) held.ways.items
  pub pending : new.pending.items ≡ old.pending.items ++ held ∷ []

-- the question that was next to work on counts as judged in full
pub record IsRetired (old new : Questions) : Type 0 where
  pub front : List Held
  pub held : Held
  pub was : old.pending.items ≡ front ++ held ∷ []
  pub pending : new.pending.items ≡ front
  pub judged : new.judged.items ≡ old.judged.items ++ held ∷ []

abbrev pub from_first : Held → Held
from_first h = record h { next = 0 }

-- all others on which the call works are to be judged from their first path
pub record AreAgain (old new : Questions) : Type 0 where
  pub pending : new.pending.items ≡ map from_first (old.judged.items ++ old.pending.items)
  pub judged : new.judged.items ≡ []

-- the table keeps the shape for the question that was next to work on
pub record IsKept (old new : Questions) (x : Shape) : Type 0 where
  pub front : List Held
  pub held : Held
  pub was : old.pending.items ≡ front ++ held ∷ []
  pub found : IsFound old.table new.table held.question x
  pub apart : AreApart new.table

-- and all others are to be judged from their first path
pub record IsRefuted (old new : Questions) (x : Shape) : Type 0 where
  pub kept : IsKept old new x
  pub pending : new.pending.items ≡ map from_first (old.judged.items ++ kept.front)
  pub judged : new.judged.items ≡ []

-- the table keeps a shape of the question
abbrev pub KeepsShape : List (ℕ × Option Shape) → ℕ → Type 0
KeepsShape kept question = (x : Shape) × Contains kept (question, Some x)

-- the new entries are the old ones without those of the questions
pub record IsWithoutAll (old new : List (ℕ × Option Shape)) (held : List Held) : Type 0 where
  pub others : (e : ℕ × Option Shape) → Contains old e → ¬ IsAmongHeld held e.0 → Contains new e
  pub from : (e : ℕ × Option Shape) → Contains new e → Contains old e × (¬ IsAmongHeld held e.0)

-- no call works: the table is closed, and the atoms of all diagrams are defined
pub record IsAtRest (env : List AtomDef) (q : Questions) : Type 0 where
  pub defined : DependBelow (length env) q.diagrams.nodes
  pub closed : IsClosed env q.diagrams q.table
  pub pending : q.pending.items ≡ []
  pub judged : q.judged.items ≡ []
