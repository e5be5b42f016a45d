-- Graphs: of numbers from 0 on, each with the numbers that follow it. Cycles in them.
use Rattle.std.specs.Prelude.{◌≡◌, ◌<◌, ◌≤◌, ◌⊎◌, ℕ, List, [], ◌∷◌, length, Contains, Option, None, Some, get_or, ⊤}

module _ (next : List (List ℕ)) where
  abbrev pub followers : ℕ → List ℕ
  followers i = get_or next i []

  abbrev pub Follows : ℕ → ℕ → Type 0
  Follows i j = Contains (followers i) j

  -- from the first number through these to the last, each of which follows the one before
  abbrev pub IsWay : ℕ → List ℕ → ℕ → Type 0
  IsWay i [] j = Follows i j
  IsWay i (k ∷ ks) j = Follows i k × IsWay k ks j

  -- a cycle that begins with this number, and then has the others
  abbrev pub IsCycle : ℕ → List ℕ → Type 0
  IsCycle first others = IsWay first others first

  abbrev pub IsOnCycle : ℕ → Type 0
  IsOnCycle first = (others : List ℕ) × IsCycle first others

-- member by member the same, or the lesser number where they first differ
abbrev pub ComesFirst : List ℕ → List ℕ → Type 0
ComesFirst [] ys = ⊤
ComesFirst (x ∷ xs) [] = ⊥
ComesFirst (x ∷ xs) (y ∷ ys) = (x < y) ⊎ ((x ≡ y) × ComesFirst xs ys)

-- Of the cycles that begin with a number a shortest one, and among the shortest the one whose numbers come first.
pub record IsFirstCycle (next : List (List ℕ)) (first : ℕ) (others : List ℕ) : Type 0 where
  pub cycle : IsCycle next first others
  pub shortest : (more : List ℕ) → IsCycle next first more → length others ≤ length more
  pub earliest : (more : List ℕ) → IsCycle next first more → length more ≡ length others → ComesFirst others more

-- what a search for cycles that begin with a number answers
abbrev pub IsCycleFound : List (List ℕ) → ℕ → Option (List ℕ) → Type 0
IsCycleFound next first None = ¬ IsOnCycle next first
IsCycleFound next first (Some others) = IsFirstCycle next first others
