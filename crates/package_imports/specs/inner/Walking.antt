-- A walk through a graph, as far as it came.
use Rattle.std.specs.Prelude.{◌≡◌, ◌+◌, ◌*◌, ℕ, List, [], ◌∷◌, ◌++◌, drop, length, reverse}
use Rattle.graphs.specs.Cycles.{followers}
use Rattle.package_imports.specs.Order.{Walks, others}
use Rattle.package_imports.specs.declared.order.Step.{Step}
use Rattle.package_imports.specs.declared.order.Walk.{Walk}

-- a number that was come to now
abbrev pub first_step : ℕ → Step
first_step n = record { number = n; place = 0 }

-- What the walk comes to, where these numbers were come to and left, and with these steps, of which the last one comes first: from each
-- of them on it walks to what is still to be gone to, leaves the step's number, and goes on with the step before.
abbrev pub Resumes : List (List ℕ) → List ℕ → List Step → List ℕ → List ℕ → List ℕ → Type 0
Resumes next seen [] left order after = (order ≡ left) × (after ≡ seen)
Resumes next seen (s ∷ steps) left order after =
    (more : List ℕ) × (between : List ℕ) × Walks next seen (drop s.place (followers next s.number)) more between
    × Resumes next between steps (left ++ more ++ s.number ∷ []) order after

-- how often the walk goes on at most: once for each step, and twice for each number that wasn't come to
abbrev pub to_go : List (List ℕ) → List ℕ → List Step → ℕ
to_go next seen steps = 2 * length (others (length next) seen) + length steps

-- a walk is a step nearer to its end, and what it comes to now it came to before
pub record Goes (next : List (List ℕ)) (seen : List ℕ) (steps : List Step) (left : List ℕ) (new : Walk) : Type 0 where
  pub leads : (order after : List ℕ) → Resumes next new.come_to.items (reverse new.steps.items) new.left.items order after
      → Resumes next seen (reverse steps) left order after
  pub less : to_go next new.come_to.items new.steps.items + 1 ≡ to_go next seen steps
