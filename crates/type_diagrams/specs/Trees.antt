-- Decisions over literals as trees.
use Rattle.std.specs.Prelude.{◌≢◌, ◌≤◌, ◌+◌, ◌==◌, ℕ, Bool, true, false, if◌then◌else◌, ⊤}
use Rattle.type_diagrams.specs.Kinds.{the_mark}

-- a decision: false, true, or by a literal, with what follows where it holds and where it doesn't
pub data Tree : Type 0 where
  No : Tree
  Yes : Tree
  By : ℕ → Tree → Tree → Tree

-- what the decision comes to
abbrev pub eval : Tree → (ℕ → Bool) → Bool
eval No v = false
eval Yes v = true
eval (By l s t) v = if v l then eval s v else eval t v

-- the place of a literal in the order of decisions: the mark is first, then the atoms by their numbers
abbrev pub rank : ℕ → ℕ
rank l = if l == the_mark then 0 else l + 1

-- the literals rise on the way down, and the first is at this place or behind it
abbrev pub RisesFrom : ℕ → Tree → Type 0
RisesFrom n No = ⊤
RisesFrom n Yes = ⊤
RisesFrom n (By l s t) = (n ≤ rank l) × RisesFrom (rank l + 1) s × RisesFrom (rank l + 1) t

-- no decision is made for nothing
abbrev pub IsReduced : Tree → Type 0
IsReduced No = ⊤
IsReduced Yes = ⊤
IsReduced (By l s t) = (s ≢ t) × IsReduced s × IsReduced t

-- a decision in order: the mark first, then the least atom on which the rest depends
pub record IsOrdered (t : Tree) : Type 0 where
  pub rises : RisesFrom 0 t
  pub reduced : IsReduced t
