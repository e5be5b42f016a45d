-- How far numbers of a graph are away from one of them.
use Rattle.std.specs.Prelude.{◌≡◌, ◌<◌, ◌≤◌, ℕ, zero, suc, List, [], length, Contains, Option, None, Some, get_or}
use Rattle.graphs.specs.Cycles.{Follows}

module _ (next : List (List ℕ)) (target : ℕ) where
  -- so many steps lead from the number to the target
  abbrev pub Leads : ℕ → ℕ → Type 0
  Leads zero i = i ≡ target
  Leads (suc steps) i = (j : ℕ) × Follows next i j × Leads steps j

  -- each number has the least number of steps that lead from it to the target, if any do
  pub record AreAway (away : List (Option ℕ)) : Type 0 where
    pub leads : (i d : ℕ) → get_or away i None ≡ Some d → Leads d i
    pub least : (i steps : ℕ) → Leads steps i → (d : ℕ) × (d ≤ steps) × (get_or away i None ≡ Some d)

-- the numbers that each one follows
pub record IsReversed (next back : List (List ℕ)) : Type 0 where
  pub long : length back ≡ length next
  pub follows : (i j : ℕ) → Contains (get_or back j []) i → Follows next i j
  pub known : (i j : ℕ) → j < length next → Follows next i j → Contains (get_or back j []) i
