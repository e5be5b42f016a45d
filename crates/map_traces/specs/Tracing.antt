-- What a walk over a tree tells of the operands of its code: the types of those that wait, and which waited at each place so far.
use Rattle.std.specs.Prelude.{◌++◌, ℕ, List, [], ◌∷◌, drop}
use Rattle.type_model.specs.declared.basic.SemType.{SemType}
use Rattle.tree_promises.specs.Types.{Stack}

pub record Tracing : Type 0 where
  -- the last one first
  pub waiting : List SemType
  -- at each place, the last one last
  pub places : List Stack

-- the first one first
abbrev pub turned : List SemType → Stack
turned [] = []
turned (t ∷ ts) = turned ts ++ t ∷ []

-- no place yet
abbrev pub untraced : Tracing
untraced = record { waiting = []; places = [] }

-- one more place
abbrev pub place : Tracing → Tracing
place s = record { waiting = s.waiting; places = s.places ++ turned s.waiting ∷ [] }

-- one more operand
abbrev pub push : SemType → Tracing → Tracing
push t s = record { waiting = t ∷ s.waiting; places = s.places }

-- the last so many operands are taken away
abbrev pub drops : ℕ → Tracing → Tracing
drops n s = record { waiting = drop n s.waiting; places = s.places }

-- ---- commands

-- one that gives an operand of this type
abbrev pub gives : SemType → Tracing → Tracing
gives t s = push t (place s)

-- one that takes so many operands, and gives one of this type
abbrev pub takes : ℕ → SemType → Tracing → Tracing
takes n t s = push t (drops n (place s))

-- one that takes the last operand and gives none
abbrev pub leaves : Tracing → Tracing
leaves s = drops 1 (place s)

-- what was given is of this type from here on
abbrev pub becomes : SemType → Tracing → Tracing
becomes t s = push t (drops 1 s)

-- one after another
abbrev pub in_turn : List (Tracing → Tracing) → Tracing → Tracing
in_turn [] s = s
in_turn (f ∷ fs) s = in_turn fs (f s)
