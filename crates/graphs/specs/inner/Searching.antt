-- The search for distances, and the way on to the nearest.
use Rattle.std.specs.Prelude.{◌≡◌, ◌+◌, ◌++◌, ◌<◌, ◌≤◌, ◌⊎◌, ℕ, zero, suc, List, [], ◌∷◌, length, Contains, Option, None, Some, get_or, set}
use Rattle.graphs.specs.Cycles.{Follows}
use Rattle.graphs.specs.Distances.{Leads}
use Rattle.graphs.specs.declared.cycles.Near.{Near}

-- ---- steps of the search, which goes back from the target level by level

-- how many aren't known
abbrev pub unknown : List (Option ℕ) → ℕ
unknown [] = 0
unknown (None ∷ away) = suc (unknown away)
unknown (Some d ∷ away) = unknown away

-- Numbers of which P holds got this distance where they had none: all of them, and no others. They are found.
pub record AreNoted (P : ℕ → Type 0) (level : ℕ) (old : List (Option ℕ)) (before : List ℕ) (new : List (Option ℕ)) (found : List ℕ) : Type 0 where
  pub long : length new ≡ length old
  pub keeps : (i d : ℕ) → get_or old i None ≡ Some d → get_or new i None ≡ Some d
  pub only : (i d : ℕ) → get_or new i None ≡ Some d → (get_or old i None ≡ Some d) ⊎ ((d ≡ level) × P i × Contains found i)
  pub all : (i : ℕ) → i < length old → P i → (d : ℕ) × (get_or new i None ≡ Some d)
  pub stay : (i : ℕ) → Contains before i → Contains found i
  pub known : (i : ℕ) → Contains found i → Contains before i ⊎ (get_or new i None ≡ Some level)
  pub counted : unknown new + length found ≡ unknown old + length before

-- a number that one of these follows
abbrev pub IsBefore : List (List ℕ) → List ℕ → ℕ → Type 0
IsBefore back edge i = (j : ℕ) × Contains edge j × Contains (get_or back j []) i

-- All distances up to the level are known, and no others; the edge is what is at this level.
pub record IsLevel (next : List (List ℕ)) (target level : ℕ) (away : List (Option ℕ)) (edge : List ℕ) : Type 0 where
  pub long : length away ≡ length next
  pub leads : (i d : ℕ) → get_or away i None ≡ Some d → Leads next target d i × (d ≤ level)
  pub least : (i steps : ℕ) → steps ≤ level → Leads next target steps i → (d : ℕ) × (d ≤ steps) × (get_or away i None ≡ Some d)
  pub all : (i : ℕ) → get_or away i None ≡ Some level → Contains edge i
  pub only : (i : ℕ) → Contains edge i → get_or away i None ≡ Some level
  pub left : 0 < length edge → level + unknown away < length next

-- ---- turning a graph round

-- the number follows this one more, where that is one of the numbers
abbrev pub AddsEdge : ℕ → ℕ → List (List ℕ) → List (List ℕ) → Type 0
AddsEdge number x old new =
    ((x < length old) × (new ≡ set old x (get_or old x [] ++ number ∷ []))) ⊎ ((length old ≤ x) × (new ≡ old))

-- a number follows these, and nothing else is new
pub record AddsEdges (number : ℕ) (numbers : List ℕ) (old new : List (List ℕ)) : Type 0 where
  pub long : length new ≡ length old
  pub only : (i j : ℕ) → Contains (get_or new j []) i → Contains (get_or old j []) i ⊎ ((i ≡ number) × Contains numbers j)
  pub keeps : (i j : ℕ) → Contains (get_or old j []) i → Contains (get_or new j []) i
  pub all : (j : ℕ) → j < length old → Contains numbers j → Contains (get_or new j []) number

-- turned round as far as the first numbers go
pub record IsTurned (count : ℕ) (next back : List (List ℕ)) : Type 0 where
  pub long : length back ≡ length next
  pub follows : (i j : ℕ) → Contains (get_or back j []) i → Follows next i j
  pub known : (i j : ℕ) → i < count → j < length next → Follows next i j → Contains (get_or back j []) i

-- ---- going on to the nearest

-- one of these has this distance; the others are no nearer, and where they are as near they don't have a lesser number
pub record IsNearest (away : List (Option ℕ)) (numbers : List ℕ) (number steps : ℕ) : Type 0 where
  pub among : Contains numbers number
  pub far : get_or away number None ≡ Some steps
  pub first : (i d : ℕ) → Contains numbers i → get_or away i None ≡ Some d → (steps < d) ⊎ ((steps ≡ d) × (number ≤ i))

-- the nearest of these, or none where none has a distance
abbrev pub IsNearestOf : List (Option ℕ) → List ℕ → Option Near → Type 0
IsNearestOf away numbers None = (i d : ℕ) → Contains numbers i → get_or away i None ≡ Some d → ⊥
IsNearestOf away numbers (Some near) = IsNearest away numbers near.number near.steps

abbrev pub ComesBefore : Near → Near → Type 0
ComesBefore a b = (a.steps < b.steps) ⊎ ((a.steps ≡ b.steps) × (a.number ≤ b.number))

-- the one of two that comes before the other
abbrev pub IsSooner : Near → Near → Near → Type 0
IsSooner old new r = ((r ≡ new) × ComesBefore new old) ⊎ ((r ≡ old) × ComesBefore old new)
