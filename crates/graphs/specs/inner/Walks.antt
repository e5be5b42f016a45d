-- A walk through a graph.
use Rattle.std.specs.Prelude.{◌≡◌, ◌<◌, ◌+◌, ◌↔◌, ℕ, zero, suc, Bool, true, false, List, [], ◌∷◌, length, map, take, All, Contains, Some, get_or, slice_get, ⊤}
use Rattle.graphs.specs.Cycles.{followers}
use Rattle.graphs.specs.Ordering.{HasCycle, IsBehindAll, IsInside, IsOnce}
use Rattle.graphs.specs.declared.order.Mark.{Mark}
use Rattle.graphs.specs.declared.order.Mark.TheVariants.{New, Begun, Done}
use Rattle.graphs.specs.declared.order.Step.{Step}
use Rattle.graphs.specs.declared.order.Walk.{Walk}

abbrev pub first_step : ℕ → Step
first_step n = record { number = n; parts = 0 }

abbrev pub numbers : List Step → List ℕ
numbers = map (λ s. s.number)

-- so many of the numbers that follow it are in the order
abbrev pub IsBegun : List (List ℕ) → List ℕ → Step → Type 0
IsBegun next order s = All (Contains order) (take s.parts (followers next s.number))

-- the part that a step is at is the number of the next step
abbrev pub IsAt : List (List ℕ) → Step → List Step → Type 0
IsAt next s [] = ⊤
IsAt next s (t ∷ steps) = slice_get (followers next s.number) s.parts ≡ Some t.number

abbrev pub IsPath : List (List ℕ) → List Step → Type 0
IsPath next [] = ⊤
IsPath next (s ∷ steps) = IsAt next s steps × IsPath next steps

-- the numbers with this mark are those of the list
abbrev pub AreMarked : List Mark → Mark → List ℕ → Type 0
AreMarked marks m xs = (i : ℕ) → slice_get marks i ≡ Some m ↔ Contains xs i

-- The steps are a path, and what they are at is begun; what is in the order is done; and the first so many numbers are one of both.
pub record AreWalked (next : List (List ℕ)) (passed : ℕ) (marks : List Mark) (steps : List Step) (order : List ℕ) : Type 0 where
  pub inside : IsInside next
  pub long : length marks ≡ length next
  pub passed_are : (i : ℕ) → i < passed → ¬ (slice_get marks i ≡ Some New)
  pub done : AreMarked marks Done order
  pub begun : AreMarked marks Begun (numbers steps)
  pub behind : IsBehindAll next order
  pub once : IsOnce order
  pub apart : IsOnce (numbers steps)
  pub path : IsPath next steps
  pub far : All (IsBegun next order) steps

abbrev pub IsWalked : List (List ℕ) → ℕ → Walk → Type 0
IsWalked next passed walk = AreWalked next passed walk.marks.items walk.steps.items walk.order.items

-- how often numbers with these marks are still begun or done
abbrev pub left : List Mark → ℕ
left [] = zero
left (New ∷ marks) = suc (suc (left marks))
left (Begun ∷ marks) = suc (left marks)
left (Done ∷ marks) = left marks

-- the number is begun, if it was new
pub record Begins (next : List (List ℕ)) (passed n : ℕ) (old new : Walk) : Type 0 where
  pub walked : IsWalked next passed new
  pub known : ¬ (slice_get new.marks.items n ≡ Some New)
  pub less : slice_get old.marks.items n ≡ Some New → left new.marks.items + 1 ≡ left old.marks.items

-- the walk is a step nearer to its end, or it found a cycle
abbrev pub Goes : List (List ℕ) → ℕ → Walk → Walk → Bool → Type 0
Goes next passed old new true = IsWalked next passed new × (left new.marks.items + 1 ≡ left old.marks.items)
Goes next passed old new false = HasCycle next

-- nothing is begun, or the walk found a cycle
abbrev pub Ends : List (List ℕ) → ℕ → Walk → Bool → Type 0
Ends next passed new true = IsWalked next passed new × (new.steps.items ≡ [])
Ends next passed new false = HasCycle next
