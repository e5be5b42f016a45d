-- What is known of questions stays, where the diagrams grow and more is held to be empty.
use Rattle.std.proofs.Common.{ℕ, ◌<◌, ◌+◌, List, length, take, get_or, Option, Some, None, All, sym, subst, arith}
use Rattle.std.proofs.lemmas.List.Elements.{All-contains, All-weaker, All-more}
use Rattle.bal_base.specs.declared.shape.Shape.{Shape}
use Rattle.type_model.specs.declared.atoms.AtomDef.{AtomDef}
use Rattle.type_diagrams.specs.Conditions.{Condition, LooksAtKinds, IsShapeOf}
use Rattle.type_diagrams.specs.Tables.{Table as Diagrams, IsDiagram, DependBelow, condition}
use Rattle.type_diagrams.specs.Whole.{Keeps, Extends}
use Rattle.type_diagrams.specs.Kept.{IsHeldEmpty}
use Rattle.type_diagrams.specs.Turns.{IsSound, HasLower}
use Rattle.type_diagrams.proofs.Keeping.{length-grows}
use Rattle.subtype_decider.specs.declared.way.Way.{Way}
use Rattle.subtype_decider.specs.declared.held.Held.{Held}
use Rattle.subtype_decider.specs.Working.{HasWays, HasNoSimple, IsJudged, IsHeld, IsJudgedInFull, CanJudge}

abbrev pub Entries : Type 0
Entries = List (ℕ × Option Shape)

module _ (env : List AtomDef) (old new : Diagrams) (keeps : Keeps old new) where
  pub diagram-grown : (q : ℕ) → IsDiagram old q → IsDiagram new q
  diagram-grown q d = length-grows old.diagrams new.diagrams q keeps.diagrams d

  -- what holds of the condition of a diagram
  pub condition-grown : (P : Condition → Type 0) (q : ℕ) → IsDiagram old q → P (condition old q) → P (condition new q)
  condition-grown P q d h = subst P (sym (keeps.conditions q d)) h

  pub condition-before : (P : Condition → Type 0) (q : ℕ) → IsDiagram old q → P (condition new q) → P (condition old q)
  condition-before P q d h = subst P (keeps.conditions q d) h

  -- what is kept is sound still
  sound-one : (kept : Entries) (e : ℕ × Option Shape) → IsSound env old e → IsSound env new e
  sound-one kept (q, Some x) s = (diagram-grown q s.0, condition-grown (λ c. IsShapeOf env c x) q s.0 s.1)
  sound-one kept (q, None) s = diagram-grown q s

  pub sound-grown : (kept : Entries) → All (IsSound env old) kept → All (IsSound env new) kept
  sound-grown kept all = All-weaker (IsSound env old) (IsSound env new) (sound-one kept) kept all

  module _ (kept more : Entries) (sound : All (IsSound env old) kept) (held : (q : ℕ) → IsHeldEmpty kept q → IsHeldEmpty more q) where
    pub held-diagram : (q : ℕ) → IsHeldEmpty kept q → IsDiagram old q
    held-diagram q h = All-contains (IsSound env old) kept (q, None) sound h

    pub lower-grown : (x : Shape) → HasLower env old kept x → HasLower env new more x
    lower-grown x l = record {
      question = l.question;
      held = held l.question l.held;
      part = l.part;
      inside = condition-grown (λ c. IsShapeOf env c l.part) l.question (held-diagram l.question l.held) l.inside;
      lower = l.lower;
    }

    pub judged-grown : (w : Way) → IsJudged env old kept w → IsJudged env new more w
    judged-grown w j x on = lower-grown x (j x on)

    pub IsHeld-grown : (h : Held) → IsHeld env old kept h → IsHeld env new more h
    IsHeld-grown h i =
        let d = held-diagram h.question i.held in
        record {
          held = held h.question i.held;
          plain = condition-grown HasNoSimple h.question d i.plain;
          ways = condition-grown (λ c. HasWays c h.ways.items) h.question d i.ways;
          next = i.next;
          judged = All-weaker (IsJudged env old kept) (IsJudged env new more) judged-grown (take h.next h.ways.items) i.judged;
        }

    pub IsJudgedInFull-grown : (h : Held) → IsJudgedInFull env old kept h → IsJudgedInFull env new more h
    IsJudgedInFull-grown h i = record { held = IsHeld-grown h i.held; full = i.full }

pub defined-grown : (env : List AtomDef) (old new : Diagrams) → Extends (length env) old new → DependBelow (length env) old.nodes → DependBelow (length env) new.nodes
defined-grown env old new e d = e.atoms (length env) (omega arith) d

pub CanJudge-grown : (env : List AtomDef) (old new : Diagrams) (kept : Entries) (h : Held) → Extends (length env) old new → CanJudge env old kept h → CanJudge env new kept h
CanJudge-grown env old new kept h e c = record {
  defined = defined-grown env old new e c.defined;
  looks = condition-grown env old new e.keeps (LooksAtKinds env) h.question (held-diagram env old new e.keeps kept kept c.sound (λ q i. i) h.question c.held.held) c.looks;
  sound = sound-grown env old new e.keeps kept c.sound;
  held = IsHeld-grown env old new e.keeps kept kept c.sound (λ q i. i) h c.held;
}

-- one more path is judged
pub IsHeld-next : (env : List AtomDef) (diagrams : Diagrams) (kept : Entries) (h : Held) (d : Way) → IsHeld env diagrams kept h → h.next < length h.ways.items → IsJudged env diagrams kept (get_or h.ways.items h.next d) → IsHeld env diagrams kept (record h { next = h.next + 1 })
IsHeld-next env diagrams kept h d i lt j = record {
  held = i.held;
  plain = i.plain;
  ways = i.ways;
  next = omega (arith, lt);
  judged = All-more (IsJudged env diagrams kept) h.ways.items h.next d lt i.judged j;
}
