-- Cycles of a graph, sought number by number.
use Rattle.std.proofs.Common.{◌≡◌, ◌≤◌, ◌<◌, ℕ, List, [], ◌∷◌, length, Some, ◌⊎◌, inl, inr, subst, arith}
use Rattle.std.proofs.lemmas.List.{get_or_past}
use Rattle.std.specs.Prelude.{Contains}
use Rattle.graphs.specs.Cycles.{Follows, IsOnCycle, followers}
use Rattle.package_imports.specs.Cycles.{IsCycleSought}
use Rattle.package_imports.specs.inner.Begun.{IsCycleBegun}

beyond : (next : List (List ℕ)) (i : ℕ) → length next ≤ i → followers next i ≡ []
beyond next i h = get_or_past next i [] h

none-follows : (next : List (List ℕ)) (i j : ℕ) → length next ≤ i → Follows next i j → ⊥
none-follows next i j h f = let none = subst (λ l. Contains l j) (beyond next i h) f in let bad = none.1 in omega (arith, bad)

-- a number that the graph doesn't have is on no cycle
off-graph : (next : List (List ℕ)) (i : ℕ) → length next ≤ i → ¬ IsOnCycle next i
off-graph next i h ([], f) = none-follows next i i h f
off-graph next i h (k ∷ ks, f) = none-follows next i k h f.0

here-or-past : (i n : ℕ) → (i < n) ⊎ (n ≤ i)
here-or-past i n = grind arith

pub none-at-all : (next : List (List ℕ)) (n : ℕ) → length next ≤ n → ((i : ℕ) → i < n → ¬ IsOnCycle next i) → (i : ℕ) → ¬ IsOnCycle next i
none-at-all next n all none i = elim (here-or-past i n) [ inl lt ↦ none i lt | inr past ↦ off-graph next i (omega (arith, past, all)) ]

pub found-least : (next : List (List ℕ)) (first : ℕ) (cycle : List ℕ) → IsCycleBegun next first (Some cycle) → ((i : ℕ) → i < first → ¬ IsOnCycle next i) → IsCycleSought next (Some cycle)
found-least next first cycle (others, e, c) none = (first, others, e, record { cycle = c; least = none })
