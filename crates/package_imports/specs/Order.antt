-- The order of modules: imports first, depth first from the default one; behind them those that it doesn't come to.
use Rattle.std.specs.Prelude.{◌≡◌, ◌<◌, ⊤, ℕ, Bool, true, false, not, nat_eq, List, [], ◌∷◌, ◌++◌, length, filter}
use Rattle.std.specs.List.{list_any, range_with_len}
use Rattle.graphs.specs.Cycles.{followers}

abbrev pub has : List ℕ → ℕ → Bool
has numbers i = list_any (λ j. nat_eq j i) numbers

-- A walk, depth first, to these numbers in order, where those of `before` were come to: which it leaves, each behind those that it comes
-- to from there, and all that were come to behind it.
pub data Walks (next : List (List ℕ)) : List ℕ → List ℕ → List ℕ → List ℕ → Type 0 where
  -- nothing is left to go to
  stays : (before : List ℕ) → Walks next before [] [] before
  -- it was come to before
  passes : (before : List ℕ) (i : ℕ) (rest order after : List ℕ) → has before i ≡ true → Walks next before rest order after
      → Walks next before (i ∷ rest) order after
  -- it is new: the walk goes to what follows it, leaves it, and goes on
  comes : (before : List ℕ) (i : ℕ) (rest inner between order after : List ℕ) → has before i ≡ false
      → Walks next (before ++ i ∷ []) (followers next i) inner between → Walks next between rest order after
      → Walks next before (i ∷ rest) (inner ++ i ∷ order) after

-- those numbers of a graph, in order, that aren't in a list
abbrev pub others : ℕ → List ℕ → List ℕ
others count numbers = filter (λ i. not (has numbers i)) (range_with_len 0 count)

-- all modules, in their order
pub record IsModuleOrder (next : List (List ℕ)) (order : List ℕ) : Type 0 where
  pub reached : List ℕ
  pub come_to : List ℕ
  pub walks : Walks next [] (0 ∷ []) reached come_to
  pub is : order ≡ reached ++ others (length next) come_to

-- ---- that these are all modules

-- no number stands in the list twice
abbrev pub IsOnce : List ℕ → Type 0
IsOnce [] = ⊤
IsOnce (i ∷ numbers) = (has numbers i ≡ false) × IsOnce numbers

-- the numbers below this one, each once
pub record IsEachOnce (count : ℕ) (order : List ℕ) : Type 0 where
  pub inside : (i : ℕ) → has order i ≡ true → i < count
  pub all : (i : ℕ) → i < count → has order i ≡ true
  pub once : IsOnce order
