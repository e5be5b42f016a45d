-- Numbers of a graph that are seen to lie on no cycle.
use Rattle.std.specs.Prelude.{◌≡◌, ℕ, Bool, true, false, List, get_or}
use Rattle.graphs.specs.Cycles.{Follows, IsOnCycle}

-- the numbers that are marked lie on no cycle of the graph
abbrev pub AreFree : List (List ℕ) → List Bool → Type 0
AreFree all marks = (i : ℕ) → get_or marks i false ≡ true → ¬ IsOnCycle all i

-- a number from which these steps lead to no number on a cycle of the graph lies on none
abbrev pub Frees : List (List ℕ) → List (List ℕ) → Type 0
Frees all steps = (i : ℕ) → ((j : ℕ) → Follows steps i j → ¬ IsOnCycle all j) → ¬ IsOnCycle all i

-- what is marked besides lies on no cycle either, of any graph of which the steps say so
abbrev pub KeepsFree : List (List ℕ) → List Bool → List Bool → Type 0
KeepsFree steps old new = (all : List (List ℕ)) → Frees all steps → AreFree all old → AreFree all new
