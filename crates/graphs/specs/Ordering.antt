-- Graphs in an order in which each number comes behind those that follow it.
use Rattle.std.specs.Prelude.{◌<◌, ℕ, List, length, take, Contains, get_or}
use Rattle.graphs.specs.Cycles.{Follows, IsOnCycle}

-- what follows a number of the list stands before it
abbrev pub IsBehindAll : List (List ℕ) → List ℕ → Type 0
IsBehindAll next order = (place j : ℕ) → place < length order → Follows next (get_or order place 0) j → Contains (take place order) j

-- no number stands in the list twice
abbrev pub IsOnce : List ℕ → Type 0
IsOnce order = (place : ℕ) → place < length order → ¬ Contains (take place order) (get_or order place 0)

-- the numbers of a graph, each once, in such an order
pub record IsOrder (next : List (List ℕ)) (order : List ℕ) : Type 0 where
  pub inside : (i : ℕ) → Contains order i → i < length next
  pub behind : IsBehindAll next order
  pub once : IsOnce order
  pub all : (i : ℕ) → i < length next → Contains order i

abbrev pub HasCycle : List (List ℕ) → Type 0
HasCycle next = (i : ℕ) × IsOnCycle next i

-- only numbers of the graph follow others
abbrev pub IsInside : List (List ℕ) → Type 0
IsInside next = (i j : ℕ) → Follows next i j → j < length next
